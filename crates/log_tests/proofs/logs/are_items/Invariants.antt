use denote.Shadow.{shadow}
use denote.Text.{Utf8}
use Rattle.log_tests.proofs.logs.are_items.Given as goal

abbrev pub invariant-loop-item : goal.invariant-loop-item
invariant-loop-item l = shadow (Utf8 l.rest)
