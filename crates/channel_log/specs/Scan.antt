-- What stands after an open commit byte.
use Rattle.std.specs.Prelude.{◌≡◌, ◌≤◌, ℕ, List, ◌++◌, length, take}
use Rattle.std.specs.List.{AllByRecursion}
use Rattle.record_form.specs.Grammar.{read_of}
use Rattle.record_form.specs.declared.record.Read.TheVariants as reads
use Rattle.record_form.specs.declared.record.Rec.{Rec}
use Rattle.channel_log.specs.declared.scan.Scan.{Scan}
use Rattle.channel_log.specs.declared.scan.Scan.TheVariants.{Frame, Part, Bad}
use Rattle.channel_log.specs.Frames.{IsFrame, IsFramed, frame_bytes, record_bytes}

-- a frame is a front of the bytes
abbrev pub BeginsFrame : List ℕ → Type 0
BeginsFrame bytes = (frame : List Rec) × (rest : List ℕ) × IsFrame frame × (bytes ≡ frame_bytes frame ++ rest)

-- Whole records that may stand in a frame, and after them the front of one more, no field of which is at fault as far as
-- it goes.
pub record IsCutShort (bytes : List ℕ) : Type 0 where
  pub records : List Rec
  pub rest : List ℕ
  pub each : AllByRecursion IsFramed records
  pub split : bytes ≡ record_bytes records ++ rest
  pub part : read_of rest ≡ reads.Part

-- Frame: a front of this length is a frame of so many records. Part: no front is a frame, and no record that is there is
-- at fault. Bad: no front is one, whatever follows the bytes.
abbrev pub IsScan : Scan → List ℕ → Type 0
IsScan (Frame count size) bytes = (frame : List Rec) × IsFrame frame × (length frame ≡ count) × (size ≤ length bytes) × (take size bytes ≡ frame_bytes frame)
IsScan Part bytes = (BeginsFrame bytes → ⊥) × IsCutShort bytes
IsScan Bad bytes = (more : List ℕ) → BeginsFrame (bytes ++ more) → ⊥
