use denote.Shadow.{shadow}
use denote.Text.{Utf8}
use Rattle.scenarios.proofs.texts.are_numbers.Given as goal

abbrev pub invariant-loop-number : goal.invariant-loop-number
invariant-loop-number l = shadow (Utf8 l.rest)
