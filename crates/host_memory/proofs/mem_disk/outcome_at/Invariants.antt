use Rattle.std.proofs.Common.{◌≡◌, None, take}
use Rattle.host_memory.proofs.Listed.{place}
use Rattle.host_memory.proofs.mem_disk.outcome_at.Given as goal

abbrev pub invariant-loop-i : goal.invariant-loop-i
invariant-loop-i l = place (take l.i l.faults) l.call ≡ None
