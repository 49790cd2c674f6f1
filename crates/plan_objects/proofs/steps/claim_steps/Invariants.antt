use Rattle.std.proofs.Common.{◌≡◌, ◌≤◌, ◌+◌, flat_map, length, take, vec_capacity}
use Rattle.plan_objects.specs.Asks.{Joined, asks_of_step, names_of, nearest}
use Rattle.plan_objects.proofs.steps.claim_steps.Given as goal

abbrev pub invariant-loop-step : goal.invariant-loop-step
invariant-loop-step g l = record {
  joined : Joined (flat_map asks_of_step (take l.step-index l.steps)) l.fn.handed.steps.items l.handed.steps.items l.fn.objects.items l.objects.items;
  first : l.first ≡ nearest l.fn.first (names_of l.fn.handed.steps.items) (flat_map asks_of_step (take l.step-index l.steps));
  sinks : l.handed.sinks.items ≡ l.fn.handed.sinks.items;
  room : length l.objects.items + length l.handed.steps.items ≤ vec_capacity l.objects;
}
