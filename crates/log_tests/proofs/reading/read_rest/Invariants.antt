use Rattle.std.proofs.Common.{◌≡◌, None}
use Rattle.host_memory.specs.Words.{told_in}
use Rattle.log_tests.proofs.reading.read_rest.Given as goal

abbrev pub invariant-loop : goal.invariant-loop
invariant-loop g l = told_in l.disk ≡ None
