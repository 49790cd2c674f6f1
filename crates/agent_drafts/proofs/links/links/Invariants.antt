use Rattle.std.proofs.Common.{◌≡◌, ◌≤◌, ◌++◌, List, drop, flat_map, length, take}
use Rattle.plan_objects.specs.Asks.{asks_of_step}
use Rattle.agent_drafts.specs.Drafts.{Deals, IsLink}
use Rattle.agent_drafts.proofs.links.links.Given as goal

-- the interceptors so far took the front of the objects, and what is left is enough for the others
abbrev pub invariant-loop-step : goal.invariant-loop-step
invariant-loop-step g l = record {
  dealt : (given : List g.row.B.Denot) × (l.fn.objects.items ≡ given ++ l.objects.items) × Deals IsLink (take l.step-index l.steps) given l.links.items;
  enough : length (flat_map asks_of_step (drop l.step-index l.steps)) ≤ length l.objects.items;
}
