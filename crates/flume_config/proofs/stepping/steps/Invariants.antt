use Rattle.agent_plan.specs.Values.{StepNamed}
use Rattle.flume_config.proofs.Making.{Makes}
use Rattle.flume_config.proofs.stepping.steps.Given as goal

abbrev pub invariant-loop-name : goal.invariant-loop-name
invariant-loop-name l = Makes (StepNamed l.place.properties.now l.place.front.now) l.name-index l.names l.steps.items
