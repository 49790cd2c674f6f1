use Rattle.prop_text.specs.Views.{texts}
use Rattle.plan_judging.specs.Candidates.{seen}
use Rattle.plan_judging.specs.Components.{priority}
use Rattle.plan_judging.proofs.Joins.{Goes}
use Rattle.plan_judging.proofs.group.check_priorities.Given as goal

abbrev pub invariant-loop-member : goal.invariant-loop-member
invariant-loop-member l = Goes (priority l.place.properties.now l.place.front.now) l.member-index (texts l.members) (seen l.fn.found) (seen l.found)
