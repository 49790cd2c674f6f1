use Rattle.std.proofs.Common.{rules, arith}
use Rattle.std.proofs.lemmas.Grind.{common_steps}
use Rattle.channel_lock.proofs.Making.{making_over}
use Rattle.channel_lock.proofs.Moves.{shuts}
use Rattle.channel_lock.proofs.lock.ChannelLock.shut.Goals as goal

pub store-requires : goal.store-requires
store-requires g c = (c.requires.table, rw c.args.self.now.sized.0 (omega arith), rw c.args.self.now.sized.1 (shuts _ _ _ _ c.args.seat.now.me c.requires.turn.0 c.requires.turn.1))

pub returns-clause-made : goal.returns-clause-made
returns-clause-made g c = λ v es m. making_over v c.args.seat.now.me.0 _ es m (first_of (search rules, grind common_steps))
