use Rattle.plan_judging.specs.Claims.{wishes}
use Rattle.plan_judging.specs.Agents.{step_claims}
use Rattle.plan_judging.proofs.Joins.{Gathers}
use Rattle.plan_judging.proofs.claims.claim_each.Given as goal

abbrev pub invariant-loop-name : goal.invariant-loop-name
invariant-loop-name l = Gathers (step_claims l.place.properties.now l.place.front.now) l.name-index l.names (wishes l.fn.claims.items) (wishes l.claims.items)
