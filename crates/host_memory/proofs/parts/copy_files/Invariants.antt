use Rattle.std.proofs.Common.{◌≡◌, take}
use Rattle.host_memory.specs.Parts.{files_of}
use Rattle.host_memory.proofs.parts.copy_files.Given as goal

abbrev pub invariant-loop-i : goal.invariant-loop-i
invariant-loop-i l = files_of l.copies.items ≡ files_of (take l.i l.files)
