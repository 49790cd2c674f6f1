-- A log file: its header, and the frames after open commit bytes.
use Rattle.std.specs.Prelude.{◌≡◌, ◌≢◌, ◌⊎◌, ◌<◌, ◌≤◌, ◌^◌, ◌+◌, ℕ, List, [], ◌∷◌, ◌++◌, length, codes, flat_map, Option, Some, None}
use Rattle.std.specs.List.{AllByRecursion}
use Rattle.event_core.specs.Numbers.{u16_bytes, u32_bytes}
use Rattle.record_form.specs.declared.record.Rec.{Rec}
use Rattle.record_form.specs.declared.record.Rec.TheVariants.{Put, Take, Rollback, CommitPut, CommitTake, End}
use Rattle.record_form.specs.Record.{spelling, HasFields, IsWithinLimits}

-- form 1, the birth, and the number of the file
unfoldable pub header : ℕ → ℕ → List ℕ
header birth number = codes "FLUMELOG" ++ u16_bytes 1 ++ u16_bytes birth ++ u32_bytes number

-- a file is begun by opening a channel, or follows a full one
abbrev pub IsBirth : ℕ → Type 0
IsBirth birth = (birth ≡ 1) ⊎ (birth ≡ 2)

abbrev pub IsNoEnd : Rec → Type 0
IsNoEnd (Put txn event) = Unit {0}
IsNoEnd (Take txn number) = Unit {0}
IsNoEnd (Rollback txn) = Unit {0}
IsNoEnd (CommitPut txn first count) = Unit {0}
IsNoEnd (CommitTake txn count) = Unit {0}
IsNoEnd (End count) = ⊥

-- a record that may stand in a frame
pub record IsFramed (rec : Rec) : Type 0 where
  pub fields : HasFields rec
  pub limits : IsWithinLimits rec
  pub no_end : IsNoEnd rec

-- the records of a frame, without its END
pub record IsFrame (records : List Rec) : Type 0 where
  pub each : AllByRecursion IsFramed records
  pub some : 1 ≤ length records
  pub few : length records < 2 ^ 32

abbrev pub record_bytes : List Rec → List ℕ
record_bytes records = flat_map spelling records

-- the bytes of a frame: its records, and END with their count
unfoldable pub frame_bytes : List Rec → List ℕ
frame_bytes records = record_bytes records ++ spelling (End (length records))

-- frames after open commit bytes
abbrev pub opened : List (List Rec) → List ℕ
opened [] = []
opened (frame ∷ frames) = 1 ∷ frame_bytes frame ++ opened frames

-- From a commit byte on, bytes have just these committed frames: then comes a commit byte that isn't open.
pub record Commits (bytes : List ℕ) (frames : List (List Rec)) : Type 0 where
  pub each : AllByRecursion IsFrame frames
  pub gate : ℕ
  pub rest : List ℕ
  pub split : bytes ≡ opened frames ++ gate ∷ rest
  pub closed : gate ≢ 1

-- From a commit byte on, bytes have these committed frames, and then a frame at fault: its commit byte is open, and no frame with a next commit byte stands after it.
pub record Breaks (bytes : List ℕ) (frames : List (List Rec)) : Type 0 where
  pub each : AllByRecursion IsFrame frames
  pub rest : List ℕ
  pub split : bytes ≡ opened frames ++ 1 ∷ rest
  pub none : (frame : List Rec) (gate : ℕ) (behind : List ℕ) → IsFrame frame → rest ≡ frame_bytes frame ++ gate ∷ behind → ⊥

-- What a log file of some number holds.
pub data Content : Type 0 where
  -- it counts as empty
  Blank : Content
  -- its header is no header of that number
  BadHeader : Content
  -- it has this birth and these committed frames
  Whole : ℕ → List (List Rec) → Content
  -- it has this birth, these committed frames, and then a frame at fault
  BadFrame : ℕ → List (List Rec) → Content

abbrev pub HasHeader : ℕ → ℕ → List ℕ → (List ℕ → Type 0) → Type 0
HasHeader birth number bytes P = IsBirth birth × ((rest : List ℕ) × (bytes ≡ header birth number ++ rest) × P rest)

abbrev pub Holds : ℕ → List ℕ → Content → Type 0
Holds number bytes Blank = length bytes ≤ 17
Holds number bytes BadHeader = (17 < length bytes) × ((birth : ℕ) → HasHeader birth number bytes (λ rest. Unit {0}) → ⊥)
Holds number bytes (Whole birth frames) = (17 < length bytes) × HasHeader birth number bytes (λ rest. Commits rest frames)
Holds number bytes (BadFrame birth frames) = (17 < length bytes) × HasHeader birth number bytes (λ rest. Breaks rest frames)

-- the offset of the first fault of its form
abbrev pub fault_of : Content → Option ℕ
fault_of Blank = None
fault_of BadHeader = Some 0
fault_of (Whole birth frames) = None
fault_of (BadFrame birth frames) = Some (16 + length (opened frames))
