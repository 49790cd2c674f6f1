use denote.Shadow.{shadow}
use denote.Text.{Utf8}
use Rattle.scenarios.proofs.pieces.add_fields.Given as goal

abbrev pub invariant-loop-width : goal.invariant-loop-width
invariant-loop-width l = shadow (Utf8 l.rest)
