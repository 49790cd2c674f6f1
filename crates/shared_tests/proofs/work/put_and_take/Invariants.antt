use Rattle.std.proofs.Common.{◌≡◌}
use Rattle.shared_tests.proofs.work.put_and_take.Given as goal

abbrev pub invariant-loop-i : goal.invariant-loop-i
invariant-loop-i g l = l.port.pass.table_id ≡ l.initial.port.pass.table_id
