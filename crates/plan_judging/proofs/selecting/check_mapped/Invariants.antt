use Rattle.std.proofs.Common.{◌++◌}
use Rattle.prop_text.specs.Views.{texts}
use Rattle.plan_judging.specs.Candidates.{seen}
use Rattle.plan_judging.specs.Components.{channels_key}
use Rattle.plan_judging.proofs.Joins.{Goes}
use Rattle.plan_judging.proofs.selecting.check_mapped.Given as goal

abbrev pub invariant-loop-at : goal.invariant-loop-at
invariant-loop-at l = Goes (channels_key (l.place.front.now ++ l.key) (texts l.channels.keys)) l.at l.place.properties.now (seen l.fn.found) (seen l.found)
