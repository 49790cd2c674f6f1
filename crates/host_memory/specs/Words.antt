-- What the objects in memory show.
use Rattle.std.specs.Prelude.{ℕ, List, [], Option, take, true, false}
use Rattle.flume_host.specs.Folder.{Files}
use Rattle.flume_host.specs.Rolled.{Rolled}
use Rattle.flume_host.specs.Told.{Told}
use Rattle.host_memory.specs.declared.parts.MemCall.{MemCall}
use Rattle.host_memory.specs.declared.parts.MemFile.{MemFile}
use Rattle.host_memory.specs.declared.stream.MemSource.{MemSource}
use Rattle.host_memory.specs.declared.stream.MemSink.{MemSink}
use Rattle.host_memory.specs.declared.store.Store.{Store}
use Rattle.host_memory.specs.declared.mem_disk.MemDisk.{MemDisk}
use Rattle.host_memory.specs.declared.mem_disk.DiskFault.{DiskFault}
use Rattle.host_memory.specs.declared.mem_roll.MemRoll.{MemRoll}
use Rattle.host_memory.specs.Stream.{left_of, took_by}
use Rattle.host_memory.specs.Rolls.{files_by, rolled_by}
use Rattle.host_memory.specs.Parts.{told_of, told_by}

-- what a source has left, where it shows its contents
abbrev pub left_in : MemSource → Option (List ℕ)
left_in s = left_of s.tells s.bytes.items s.at

-- the numbers of the reads that are to fail, and of the next one
abbrev pub source_fails : MemSource → List ℕ
source_fails s = s.script.fails.items

abbrev pub source_calls : MemSource → ℕ
source_calls s = s.script.calls

-- the most that each read gives
abbrev pub source_pieces : MemSource → List ℕ
source_pieces s = s.pieces.items

abbrev pub source_faults : MemSource → ℕ
source_faults s = s.faults

-- what a sink took, where it shows its contents
abbrev pub took_in : MemSink → Option (List ℕ)
took_in s = took_by s.tells s.bytes.items

-- what it has handed on
abbrev pub handed_in : MemSink → Option (List ℕ)
handed_in s = took_by s.tells (take s.handed s.bytes.items)

-- the numbers of the calls that are to fail, and of the next one
abbrev pub sink_fails : MemSink → List ℕ
sink_fails s = s.script.fails.items

abbrev pub sink_calls : MemSink → ℕ
sink_calls s = s.script.calls

-- the most that each write takes
abbrev pub sink_pieces : MemSink → List ℕ
sink_pieces s = s.pieces.items

abbrev pub sink_faults : MemSink → ℕ
sink_faults s = s.faults

-- what the recorded calls made of the first files
abbrev pub replayed : Store → Told
replayed s = told_of s.first.items s.calls.items

-- what a disk shows, where it shows its contents
abbrev pub told_in : MemDisk → Option Told
told_in d = told_by d.tells d.store.first.items d.store.calls.items

-- what a disk would show by its record, also where it shows nothing
abbrev pub record_in : MemDisk → Told
record_in d = replayed d.store

-- the files that it had first, and its recorded calls
abbrev pub files_first : MemDisk → List MemFile
files_first d = d.store.first.items

abbrev pub calls_made : MemDisk → List MemCall
calls_made d = d.store.calls.items

-- what reads of a disk give
abbrev pub reads_in : MemDisk → Files
reads_in d = (replayed d.store).reads

-- how many of its recorded calls were syncs
abbrev pub syncs_in : MemDisk → ℕ
syncs_in d = (replayed d.store).syncs

-- the calls that are to fail, and the number of the next one
abbrev pub disk_script : MemDisk → List DiskFault
disk_script d = d.script.faults.items

abbrev pub disk_calls : MemDisk → ℕ
disk_calls d = d.script.calls

abbrev pub disk_faults : MemDisk → ℕ
disk_faults d = d.faults

-- what a folder of rolled files shows, where it shows its contents
abbrev pub rolled_in : MemRoll → Option Rolled
rolled_in r = rolled_by r.tells (record { files = files_by r.files.items; flushed = r.flushed; begun = r.begun; failed = r.failed })

-- without files
abbrev pub no_files : Rolled
no_files = record { files = []; flushed = true; begun = false; failed = false }

-- the numbers of its calls that are to fail, and of the next one
abbrev pub roll_fails : MemRoll → List ℕ
roll_fails r = r.script.fails.items

abbrev pub roll_calls : MemRoll → ℕ
roll_calls r = r.script.calls

-- the most that each write takes
abbrev pub roll_pieces : MemRoll → List ℕ
roll_pieces r = r.pieces.items

abbrev pub roll_faults : MemRoll → ℕ
roll_faults r = r.faults
