use Rattle.std.proofs.Common.{◌≤◌, length}
use Rattle.host_real.proofs.disk.read_whole.Given as goal

abbrev pub invariant-loop : goal.invariant-loop
invariant-loop l = l.filled ≤ length l.into
