use Rattle.prop_text.specs.Views.{texts}
use Rattle.plan_judging.specs.Candidates.{seen}
use Rattle.plan_judging.specs.Components.{step_named}
use Rattle.plan_judging.proofs.Joins.{Goes}
use Rattle.plan_judging.proofs.interceptor.check_each.Given as goal

abbrev pub invariant-loop-name : goal.invariant-loop-name
invariant-loop-name l = Goes (step_named l.place.properties.now l.place.front.now) l.name-index (texts l.names) (seen l.fn.found) (seen l.found)
