-- What a folder of rolled files in memory shows.
use Rattle.std.specs.Prelude.{List, [], ◌∷◌, Bool, if◌then◌else◌, Option, None, Some, string_bytes}
use Rattle.flume_host.specs.Rolled.{Rolled, RollFile}
use Rattle.host_memory.specs.declared.mem_roll.RolledFile.{RolledFile}

abbrev pub file_by : RolledFile → RollFile
file_by file = record { name = string_bytes file.name; bytes = file.bytes.items }

abbrev pub files_by : List RolledFile → List RollFile
files_by [] = []
files_by (file ∷ files) = file_by file ∷ files_by files

abbrev pub rolled_by : Bool → Rolled → Option Rolled
rolled_by tells rolled = if tells then Some rolled else None
