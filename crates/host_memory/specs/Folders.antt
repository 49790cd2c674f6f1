-- What a host in memory shows of the parts that are not handed out.
use Rattle.std.specs.Prelude.{◌≡◌, ℕ, List, [], get_or, Bool, Option, None, Some, is_some, bytes_eq, string_bytes}
use Rattle.std.specs.declared.vec.Vec.{Vec}
use Rattle.std.specs.declared.alloc.Global.{Global}
use Rattle.std.specs.Option.{option_map}
use Rattle.flume_host.specs.Told.{Told}
use Rattle.flume_host.specs.Rolled.{Rolled}
use Rattle.host_memory.specs.declared.stream.MemSource.{MemSource}
use Rattle.host_memory.specs.declared.stream.MemSink.{MemSink}
use Rattle.host_memory.specs.declared.mem_disk.MemDisk.{MemDisk}
use Rattle.host_memory.specs.declared.mem_roll.MemRoll.{MemRoll}
use Rattle.host_memory.specs.declared.named.Named.{Named}
use Rattle.host_memory.specs.Look.{look_up, place_by}
use Rattle.host_memory.specs.Parts.{start}
use Rattle.host_memory.specs.Words.{left_in, took_in, handed_in, told_in, rolled_in, no_files}

abbrev pub input_of : Option MemSource → Option (List ℕ)
input_of None = None
input_of (Some source) = left_in source

abbrev pub output_of : Option MemSink → Option (List ℕ)
output_of None = None
output_of (Some sink) = took_in sink

abbrev pub handed_of : Option MemSink → Option (List ℕ)
handed_of None = None
handed_of (Some sink) = handed_in sink

abbrev pub told_home : Option MemDisk → Option Told
told_home None = None
told_home (Some disk) = told_in disk

abbrev pub rolled_home : Option MemRoll → Option Rolled
rolled_home None = None
rolled_home (Some roll) = rolled_in roll

-- where the first object of a path is
abbrev pub place_in : {T : Type 0} → List (Named T) → List ℕ → Option ℕ
place_in = place_by bytes_eq (λ named. string_bytes named.path)

-- there is one of this path
abbrev pub is_in : {T : Type 0} → List (Named T) → List ℕ → Bool
is_in objects path = is_some (place_in objects path)

-- the object at this place is this one
abbrev pub IsAt : {T : Type 0} → List (Named T) → ℕ → Named T → Type 0
IsAt objects i named = named ≡ get_or objects i named

abbrev pub with_object : {T : Type 0} → Named T → Option T → Named T
with_object named object = record named { object = object }

-- What the disk of the first folder of each path shows. A path without a folder has an empty disk.
abbrev pub folder_of : List (Named MemDisk) → List ℕ → Option Told
folder_of = look_up bytes_eq (λ named. string_bytes named.path) (λ named. told_home named.object) (Some (start []))

-- What the first folder of rolled files of each path shows. A path without one has no files.
abbrev pub roll_of : List (Named MemRoll) → List ℕ → Option Rolled
roll_of = look_up bytes_eq (λ named. string_bytes named.path) (λ named. rolled_home named.object) (Some no_files)

-- The bytes of the first file of each path, where there is one.
abbrev pub file_of : List (Named (Vec ℕ Global)) → List ℕ → Option (List ℕ)
file_of = look_up bytes_eq (λ named. string_bytes named.path) (λ named. option_map (λ bytes. bytes.items) named.object) None
