use denote.Shadow.{shadow}
use denote.Text.{Utf8}
use Rattle.source_tests.proofs.events.is_shown.Given as goal

abbrev pub invariant-loop-key : goal.invariant-loop-key
invariant-loop-key l = shadow (Utf8 l.rest)
