use Rattle.std.proofs.Common.{ℕ, List, ◌-◌, length}
use Rattle.avro_binary.specs.Value.{IsBytes, BytesFault}
use Rattle.avro_binary.specs.Items.{IsEntry, EntryFault}
use Rattle.avro_binary.proofs.Blocks.{Reached}
use Rattle.avro_binary.proofs.items.read_meta.Given as goal

abbrev pub invariant-entries : goal.invariant-entries
invariant-entries l = (entries : List (List ℕ × List ℕ)) × Reached (IsEntry IsBytes) (EntryFault BytesFault) l.bytes l.at l.place l.left entries

abbrev pub decreases-entries : goal.decreases-entries
decreases-entries l = length l.bytes - l.place
