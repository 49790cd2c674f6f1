use Rattle.std.proofs.Common.{arith}
use Rattle.channel_lock.proofs.Shares.{deals}
use Rattle.channel_lock.proofs.lock.ChannelLock.deal.Goals as goal

pub split_seat-requires : goal.split_seat-requires
split_seat-requires g c = (c.requires.table, rw c.args.self.now.sized.0 (omega arith), deals _ _ _ _ _ c.requires.deals.0 c.requires.deals.1 c.requires.deals.2 c.requires.room)
