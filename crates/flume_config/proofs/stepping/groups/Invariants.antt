use Rattle.agent_plan.specs.Values.{IsGroup}
use Rattle.flume_config.proofs.Making.{Makes}
use Rattle.flume_config.proofs.stepping.groups.Given as goal

abbrev pub invariant-loop-name : goal.invariant-loop-name
invariant-loop-name l = Makes (IsGroup l.place.properties.now l.place.front.now) l.name-index l.names l.groups.items
