use Rattle.std.proofs.Common.{◌≡◌, take}
use Rattle.plan_objects.specs.Named.{HasNone}
use Rattle.plan_objects.proofs.named.claim.Given as goal

abbrev pub invariant-loop-place : goal.invariant-loop-place
invariant-loop-place g l = HasNone l.name (take l.place l.held.items) × (l.held.items ≡ l.initial.held.items)
