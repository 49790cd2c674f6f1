use Rattle.std.proofs.Common.{rules, arith}
use Rattle.std.proofs.lemmas.Grind.{common_steps}
use Rattle.channel_lock.proofs.Making.{making_over}
use Rattle.channel_lock.proofs.Moves.{leaves_as}
use Rattle.channel_lock.proofs.lock.ChannelLock.leave.Goals as goal

pub store-requires : goal.store-requires
store-requires g c =
    let x = c.exchange-before.ensures in
    (search rules, rw c.args.self.now.sized.0 (omega arith), rw c.args.self.now.sized.1 (leaves_as _ _ _ _ c.args.seat.now.me _ c.args.value c.requires.turn.0 c.requires.turn.2 c.requires.turn.1 c.requires.value x.3))

pub returns-clause-made : goal.returns-clause-made
returns-clause-made g c = λ v es m. making_over v c.args.seat.now.me.0 _ es m (first_of (search rules, grind common_steps))
