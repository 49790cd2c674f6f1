use Rattle.std.proofs.Common.{◌≡◌, drop, map}
use Rattle.world_laws.specs.World.{required_of}
use Rattle.hop_core.proofs.selector.is_required.Given as goal

abbrev pub invariant-loop-place : goal.invariant-loop-place
invariant-loop-place l = required_of (map (λ pair. (pair.0, pair.1.items)) l.required) l.event ≡ required_of (map (λ pair. (pair.0, pair.1.items)) (drop l.place l.required)) l.event
