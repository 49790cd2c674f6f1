use Rattle.std.proofs.Common.{ap, arith}
use Rattle.channel_places.specs.Looks.{Places}
use Rattle.channel_places.proofs.places.Held.size_of_takes.Goals as goal

pub returns-in-Some-clause-small : goal.returns-in-Some-clause-small
returns-in-Some-clause-small c = omega (arith, c.in-Some.ensures.within, ap (λ (q : Places). q.numbers.rules.limits.txn_capacity) c.self.view_is)
