use Rattle.std.proofs.Common.{◌≡◌}
use Rattle.world_laws.specs.World.{is_same_header}
use Rattle.std.specs.Cmp.Lexicographic.{pointwise}
use Rattle.hop_core.proofs.same.are_same_headers.Given as goal

abbrev pub invariant-loop-key : goal.invariant-loop-key
invariant-loop-key l = pointwise is_same_header l.a l.b ≡ pointwise is_same_header l.first l.second
