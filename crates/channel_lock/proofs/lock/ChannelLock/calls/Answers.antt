use Rattle.std.proofs.Common.{arith}
use Rattle.channel_lock.proofs.Moves.{reads}
use Rattle.channel_lock.proofs.lock.ChannelLock.calls.Goals as goal

pub load-requires : goal.load-requires
load-requires g c = (c.requires.table, rw c.args.self.now.sized.0 (omega arith), rw c.args.self.now.sized.1 (reads _ _ _ _ _ c.requires.turn))
