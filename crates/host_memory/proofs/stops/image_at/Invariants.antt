use Rattle.std.proofs.Common.{◌≡◌, take}
use Rattle.flume_host.specs.Folder.{IsImage}
use Rattle.host_memory.specs.Parts.{files_of, told_of}
use Rattle.host_memory.specs.Stops.{chosen, image_after}
use Rattle.host_memory.proofs.stops.image_at.Given as goal

abbrev pub invariant-loop-i : goal.invariant-loop-i
invariant-loop-i l =
    (files_of l.files.items ≡ (told_of l.first (take l.i l.calls)).reads) × IsImage (told_of l.first (take l.i l.calls)).now (files_of l.image.items)
    × (files_of l.image.items ≡ image_after (chosen l.choices) l.first l.calls l.i)
