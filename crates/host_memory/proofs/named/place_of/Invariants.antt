use Rattle.std.proofs.Common.{◌≡◌, None, take}
use Rattle.host_memory.specs.Folders.{place_in}
use Rattle.host_memory.proofs.named.place_of.Given as goal

abbrev pub invariant-loop-i : goal.invariant-loop-i
invariant-loop-i g l = place_in (take l.i l.objects) l.path ≡ None
