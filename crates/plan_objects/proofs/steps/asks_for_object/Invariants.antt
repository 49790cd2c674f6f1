use Rattle.std.proofs.Common.{◌≡◌, flat_map, drop}
use Rattle.plan_objects.specs.Asks.{asks_of_source, asks_of_step, has_asks}
use Rattle.plan_objects.proofs.steps.asks_for_object.Given as goal

-- one that is left asks, or none does
abbrev pub invariant-loop-step : goal.invariant-loop-step
invariant-loop-step l = has_asks (flat_map asks_of_step (drop l.step-index l.source.steps.items)) ≡ has_asks (asks_of_source l.source)
