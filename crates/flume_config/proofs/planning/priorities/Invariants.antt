use Rattle.std.proofs.Common.{◌≡◌, ◌++◌, map, drop}
use Rattle.prop_text.specs.Views.{texts}
use Rattle.agent_plan.specs.Values.{priority_of}
use Rattle.flume_config.proofs.planning.priorities.Given as goal

abbrev pub invariant-loop-member : goal.invariant-loop-member
invariant-loop-member l = l.found.items ++ map (priority_of l.place.properties.now l.place.front.now l.kind) (texts (drop l.member-index l.members)) ≡ map (priority_of l.place.properties.now l.place.front.now l.kind) (texts l.members)
