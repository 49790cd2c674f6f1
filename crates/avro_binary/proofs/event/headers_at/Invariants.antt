use Rattle.std.proofs.Common.{◌≡◌, ℕ, List, ◌-◌, length}
use Rattle.avro_binary.specs.Value.{IsText, TextFault}
use Rattle.avro_binary.specs.Items.{IsEntry, EntryFault}
use Rattle.avro_binary.specs.Event.{headers_of}
use Rattle.avro_binary.proofs.Blocks.{Reached}
use Rattle.avro_binary.proofs.event.headers_at.Given as goal

abbrev pub invariant-entries : goal.invariant-entries
invariant-entries l = (entries : List (List ℕ × List ℕ)) × Reached (IsEntry IsText) (EntryFault TextFault) l.bytes l.at l.place l.left entries × (l.headers ≡ headers_of entries)

abbrev pub decreases-entries : goal.decreases-entries
decreases-entries l = length l.bytes - l.place
