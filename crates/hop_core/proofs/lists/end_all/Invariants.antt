use Rattle.std.proofs.Common.{◌≡◌, ◌++◌, take, drop, map, None}
use Rattle.hop_core.proofs.lists.end_all.Given as goal

abbrev pub invariant-loop-place : goal.invariant-loop-place
invariant-loop-place g l = l.list ≡ map (λ x. None) (take l.place l.initial.list) ++ drop l.place l.initial.list
