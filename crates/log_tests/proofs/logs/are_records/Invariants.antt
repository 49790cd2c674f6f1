use denote.Shadow.{shadow}
use denote.Text.{Utf8}
use Rattle.log_tests.proofs.logs.are_records.Given as goal

abbrev pub invariant-loop-record : goal.invariant-loop-record
invariant-loop-record l = shadow (Utf8 l.rest)
