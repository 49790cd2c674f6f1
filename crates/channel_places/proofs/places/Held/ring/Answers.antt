use Rattle.std.proofs.Common.{arith}
use Rattle.channel_places.proofs.places.Held.ring.Goals as goal

pub returns-clause-few : goal.returns-clause-few
returns-clause-few c =
    let i = c.self.invariant in
    rw (← c.self.view_is) (omega (arith, i.within, i.few))
