use denote.Shadow.{shadow}
use denote.Text.{Utf8}
use Rattle.channel_tests.proofs.crashes.due.Given as goal

abbrev pub invariant-loop-count : goal.invariant-loop-count
invariant-loop-count l = shadow (Utf8 l.before)
