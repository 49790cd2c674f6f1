use Rattle.std.proofs.Common.{◌≡◌, take, count_by}
use Rattle.host_memory.specs.Ends.{is_at}
use Rattle.host_memory.proofs.address.first_at.Given as goal

abbrev pub invariant-loop-i : goal.invariant-loop-i
invariant-loop-i l = count_by (is_at l.host l.port) (take l.i l.out) ≡ 0
