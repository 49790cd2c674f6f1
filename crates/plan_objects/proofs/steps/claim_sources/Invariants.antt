use Rattle.std.proofs.Common.{◌≡◌, ◌≤◌, ◌+◌, None, length, take, vec_capacity}
use Rattle.plan_objects.specs.Asks.{Joined, step_asks, names_of, nearest}
use Rattle.plan_objects.proofs.steps.claim_sources.Given as goal

abbrev pub invariant-loop-source : goal.invariant-loop-source
invariant-loop-source g l = record {
  joined : Joined (step_asks (take l.source-index l.sources)) l.fn.handed.steps.items l.handed.steps.items l.fn.objects.items l.objects.items;
  first : l.first ≡ nearest None (names_of l.fn.handed.steps.items) (step_asks (take l.source-index l.sources));
  sinks : l.handed.sinks.items ≡ l.fn.handed.sinks.items;
  room : length l.objects.items + length l.handed.steps.items ≤ vec_capacity l.objects;
}
