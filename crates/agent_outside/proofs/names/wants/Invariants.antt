use Rattle.std.proofs.Common.{◌≡◌, drop}
use Rattle.std.specs.List.{list_any}
use Rattle.agent_outside.specs.Names.{asks}
use Rattle.agent_outside.proofs.names.wants.Given as goal

-- those that are left tell as all do
abbrev pub invariant-loop-step : goal.invariant-loop-step
invariant-loop-step l = list_any (asks l.use_ip) (drop l.step-index l.steps) ≡ list_any (asks l.use_ip) l.steps
