use Rattle.std.proofs.Common.{◌≡◌, drop}
use Rattle.plan_judging.specs.Agents.{is_agent}
use Rattle.flume_config.proofs.planning.is_agent.Given as goal

abbrev pub invariant-loop-at : goal.invariant-loop-at
invariant-loop-at l = is_agent (drop l.at l.properties) l.agent ≡ is_agent l.properties l.agent
