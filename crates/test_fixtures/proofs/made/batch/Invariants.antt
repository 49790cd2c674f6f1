use Rattle.std.proofs.Common.{◌≡◌, length, ◌≤◌}
use Rattle.test_fixtures.proofs.made.batch.Given as goal

abbrev pub invariant-loop-body : goal.invariant-loop-body
invariant-loop-body l = (length l.batch ≡ l.body-index) × (l.body-index ≤ length l.bodies)
