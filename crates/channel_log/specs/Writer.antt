-- A log file that is being written.
use Rattle.std.specs.Prelude.{◌≡◌, ◌⊎◌, ◌<◌, ◌≤◌, ◌+◌, ◌^◌, ℕ, Bool, true, List, [], ◌∷◌, ◌++◌, length, Option, Some, None, IsSomeAnd, IfSome}
use Rattle.std.specs.List.{AllByRecursion}
use Rattle.flume_host.specs.declared.names.FileName.TheVariants.{Log}
use Rattle.flume_host.specs.Folder.{Gone, There, stable}
use Rattle.flume_host.specs.Told.{Told, WhereTold}
use Rattle.record_form.specs.declared.record.Rec.{Rec}
use Rattle.record_form.specs.Record.{spelling}
use Rattle.channel_log.specs.Window.{Kept}
use Rattle.channel_log.specs.Frames.{IsFramed, IsFrame, Commits, header, opened, record_bytes}

-- The writer of a file: its number, the offset of its closed commit byte, whether it has a frame, the bytes and the
-- number of the records that wait for a flush, and what it keeps of what it last read.
pub record Writer : Type 0 where
  pub file : ℕ
  pub gate : ℕ
  pub max_file : ℕ
  pub started : Bool
  pub bytes : List ℕ
  pub count : ℕ
  pub kept : Kept

-- these records wait for a flush
pub record IsPending (w : Writer) (records : List Rec) : Type 0 where
  pub spelled : w.bytes ≡ record_bytes records
  pub counted : w.count ≡ length records
  pub each : AllByRecursion IsFramed records

-- a record of this length can be appended: END and a commit byte still fit after it
abbrev pub HasRoom : Writer → ℕ → Type 0
HasRoom w size = length w.bytes + size + 6 ≤ 2_097_152

-- records wait that the file, which has a frame, can't take without passing its greatest length, and a file may follow it
abbrev pub MustRoll : Writer → Type 0
MustRoll w = (1 ≤ w.count) × (w.started ≡ true) × (w.max_file < w.gate + 7 + length w.bytes) × (w.file < 4_294_967_295)

-- a record more waits
pub record Appends (old new : Writer) (rec : Rec) : Type 0 where
  pub is : new ≡ record old { bytes = old.bytes ++ spelling rec; count = old.count + 1 }
  pub framed : IsFramed rec

-- what the file holds: its header, its frames, and a closed commit byte
abbrev pub file_of : ℕ → ℕ → List (List Rec) → List ℕ
file_of birth number frames = (header birth number ++ opened frames) ++ 0 ∷ []

-- The file has these frames, no stop leaves another content, and its closed commit byte is at this offset.
pub record IsAtRest (t : Told) (birth number gate : ℕ) (frames : List (List Rec)) : Type 0 where
  pub each : AllByRecursion IsFrame frames
  pub offset : gate ≡ length (header birth number ++ opened frames)
  pub reads : t.reads (Log number) ≡ Some (file_of birth number frames)
  pub durable : t.now (Log number) ≡ There (stable (file_of birth number frames))

abbrev pub IsReady : Option Told → ℕ → ℕ → ℕ → List (List Rec) → Type 0
IsReady told birth number gate frames = WhereTold told (λ t. IsAtRest t birth number gate frames)

-- there is no such file, and no stop leaves one
abbrev pub IsUnused : Option Told → ℕ → Type 0
IsUnused told number = WhereTold told (λ t. (t.reads (Log number) ≡ None) × (t.now (Log number) ≡ Gone))

-- the bytes are this header, and after it just these committed frames
abbrev pub HasFrames : ℕ → ℕ → List (List Rec) → List ℕ → Type 0
HasFrames birth number frames bytes = (rest : List ℕ) × (bytes ≡ header birth number ++ rest) × Commits rest frames

-- a crash leaves the frames from before, or these and the new one
abbrev pub LacksOrHas : ℕ → ℕ → List (List Rec) → List Rec → Option (List ℕ) → Type 0
LacksOrHas birth number frames frame file = IsSomeAnd file (λ bytes. HasFrames birth number frames bytes ⊎ HasFrames birth number (frames ++ frame ∷ []) bytes)

-- a crash leaves no such file, or one that counts as empty
abbrev pub IsBlank : Option (List ℕ) → Type 0
IsBlank file = IfSome file (λ bytes. length bytes ≤ 17)

-- what is true of each writer: END and a commit byte fit after the frame, the commit byte stands after the header, and further after it
-- just where the file has a frame, and offsets fit their type
pub record IsWithin (gate count : ℕ) (started : Bool) (bytes : List ℕ) (capacity : ℕ) : Type 0 where
  pub room : 2_097_152 ≤ capacity
  pub fits : length bytes + 6 ≤ 2_097_152
  pub few : count ≤ length bytes
  pub first : 16 ≤ gate
  pub later : started ≡ true → 16 < gate
  pub earlier : 16 < gate → started ≡ true
  pub low : gate < 2 ^ 63
