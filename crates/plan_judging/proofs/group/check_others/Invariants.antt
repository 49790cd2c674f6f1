use Rattle.std.proofs.Common.{option_map}
use Rattle.prop_text.specs.Views.{texts}
use Rattle.plan_judging.specs.Candidates.{seen}
use Rattle.plan_judging.specs.Components.{channel_of, same_channel}
use Rattle.plan_judging.proofs.Joins.{Goes}
use Rattle.plan_judging.proofs.group.check_others.Given as goal

abbrev pub invariant-loop-other : goal.invariant-loop-other
invariant-loop-other l = Goes (λ other. same_channel (option_map (λ x. (x.0.now, x.1)) l.first) (channel_of l.agent.properties.now l.agent.name.now (texts l.sinks.keys) other)) l.other-index (texts l.others) (seen l.fn.found) (seen l.found)
