use Rattle.std.proofs.Common.{◌≡◌}
use Rattle.shared_tests.proofs.rows.first_wrong.Given as goal

abbrev pub invariant-loop-line : goal.invariant-loop-line
invariant-loop-line g l = (l.a.table_id ≡ l.initial.a.table_id) × (l.b.table_id ≡ l.initial.b.table_id)
