-- One image of many: what a crash leaves, where each call's change is chosen to stand or not.
use Rattle.std.specs.Prelude.{◌%◌, ℕ, zero, suc, List, [], ◌∷◌, take, length, get_or, replicate, slice_get, Option, Some, None}
use Rattle.flume_host.specs.Folder.{Files, with_at}
use Rattle.flume_host.specs.Told.{Change, Make, Write, Sync, Remove, Call, On, Settle, read_by, file_after}
use Rattle.host_memory.specs.declared.parts.MemCall.{MemCall}
use Rattle.host_memory.specs.declared.parts.MemFile.{MemFile}
use Rattle.host_memory.specs.declared.parts.Outcome.{Outcome}
use Rattle.host_memory.specs.declared.parts.Outcome.TheVariants.{Whole, Partly, Nothing}
use Rattle.host_memory.specs.declared.stops.Stood.{Stood}
use Rattle.host_memory.specs.declared.stops.Stood.TheVariants.{Old, New, Front, Garbage}
use Rattle.host_memory.specs.Parts.{call_of, files_of, part_after, part_read, told_of}

-- the bytes that stand of a write
abbrev pub stood_of : Stood → List ℕ → List ℕ
stood_of Old bytes = []
stood_of New bytes = bytes
stood_of (Front n) bytes = take n bytes
stood_of (Garbage byte) bytes = replicate (length bytes) byte

-- a file in the image after a change that was under way or failed
abbrev pub torn : Stood → Change → Option (List ℕ) → Option (List ℕ)
torn Old Make file = file
torn New Make file = part_after 0 Make file
torn (Front n) Make file = part_after 0 Make file
torn (Garbage byte) Make file = part_after 0 Make file
torn stood (Write at bytes) file = file_after (Write at (stood_of stood bytes)) file
torn stood Sync file = file
torn Old Remove file = file
torn New Remove file = None
torn (Front n) Remove file = None
torn (Garbage byte) Remove file = None

-- after a change that answered Ok, where reads give such a file
abbrev pub kept : Stood → Change → Option (List ℕ) → Option (List ℕ) → Option (List ℕ)
kept stood Make reads file = Some []
kept stood (Write at bytes) reads file = file_after (Write at (stood_of stood bytes)) file
kept stood Sync None file = file
kept stood Sync (Some bytes) file = Some bytes
kept stood Remove reads file = None

abbrev pub image_torn : Stood → Call → Files → Files
image_torn stood (On name change) image = with_at image name (torn stood change (image name))
image_torn stood Settle image = image

abbrev pub image_kept : Stood → Call → Files → Files → Files
image_kept stood (On name change) reads image = with_at image name (kept stood change (reads name) (image name))
image_kept stood Settle reads image = reads

-- the image after a call, of which so much was done
abbrev pub image_by : Outcome → Stood → Call → Files → Files → Files
image_by Whole stood call reads image = image_kept stood call reads image
image_by (Partly n) stood call reads image = image_torn stood call image
image_by Nothing stood call reads image = image_torn stood call image

-- what reads give after it
abbrev pub reads_by : Outcome → Call → Files → Files
reads_by Whole call files = read_by call files
reads_by (Partly n) call files = part_read n call files
reads_by Nothing call files = files

-- what stands of the call of this number: the choices go round, and without any all is as it was
abbrev pub chosen : List Stood → ℕ → Stood
chosen [] number = Old
chosen (c ∷ cs) number = get_or (c ∷ cs) (number % length (c ∷ cs)) Old

-- the image after one more call, if there is one, where reads gave these files before it
abbrev pub image_with : Stood → Files → Option MemCall → Files → Files
image_with stood reads None image = image
image_with stood reads (Some call) image = image_by call.outcome stood (call_of call.change) reads image

-- the image after so many of a disk's calls, of which this is chosen to stand
abbrev pub image_after : (ℕ → Stood) → List MemFile → List MemCall → ℕ → Files
image_after stands first calls zero = files_of first
image_after stands first calls (suc n) = image_with (stands n) (told_of first (take n calls)).reads (slice_get calls n) (image_after stands first calls n)

-- and where the call after them was under way, if there was one
abbrev pub image_within : Stood → Option MemCall → Files → Files
image_within stood None image = image
image_within stood (Some call) image = image_torn stood (call_of call.change) image

-- what a crash at this moment leaves, by the choices
abbrev pub image_chosen : (ℕ → Stood) → List MemFile → List MemCall → ℕ → Files
image_chosen stands first calls moment = image_within (stands moment) (slice_get calls moment) (image_after stands first calls moment)
