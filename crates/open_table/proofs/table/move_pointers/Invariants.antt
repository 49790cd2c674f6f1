use Rattle.std.proofs.Common.{◌≡◌, take, drop, map}
use Rattle.open_table.specs.Tables.{moved_pointer}
use Rattle.open_table.proofs.table.move_pointers.Given as goal

abbrev pub invariant-loop-pointer : goal.invariant-loop-pointer
invariant-loop-pointer l =
    (take l.pointer-index l.pointers ≡ map (moved_pointer l.file l.at l.to_file l.to_at) (take l.pointer-index l.fn.pointers))
    × (drop l.pointer-index l.pointers ≡ drop l.pointer-index l.fn.pointers)
