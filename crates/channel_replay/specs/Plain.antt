-- Whole log files, and what was read of them.
use Rattle.std.specs.Prelude.{◌≡◌, ◌+◌, ℕ, List, [], ◌∷◌, ◌++◌, length, drop, Option}
use Rattle.event_core.specs.Journal.{Base}
use Rattle.record_form.specs.declared.record.Rec.{Rec}
use Rattle.channel_log.specs.Frames.{Content, IsFrame, Holds, frame_bytes}
use Rattle.channel_log.specs.Reader.{Goes, frame_items, record_items}
use Rattle.channel_replay.specs.declared.line.Line.{Line}
use Rattle.channel_replay.specs.declared.plain.WholeFile.{WholeFile}
use Rattle.channel_replay.specs.declared.refused.RecoverRefused.{RecoverRefused}
use Rattle.channel_replay.specs.declared.refused.RecoverRefused.TheVariants as refusals
use Rattle.channel_replay.specs.declared.recovery.Replayed.{Replayed}
use Rattle.channel_replay.specs.Recover.{LogFile, fault_lines, file_lines, record_lines}

-- these whole files are those log files, one by one
abbrev pub AreOf : List WholeFile → List LogFile → Type 0
AreOf [] [] = Unit {0}
AreOf [] (log ∷ logs) = ⊥
AreOf (file ∷ files) [] = ⊥
AreOf (file ∷ files) (log ∷ logs) = (log.number ≡ file.number) × Holds log.number file.bytes.items log.content × AreOf files logs

-- the list that was recovered, with its next number
abbrev pub base_of : Replayed → Base
base_of r = record { items = r.items.items; first = r.next.number }

-- P of the file and the offset of a fault
abbrev pub WhereBad : RecoverRefused → (ℕ → ℕ → Type 0) → Type 0
WhereBad (refusals.BadLog file at) P = P file at
WhereBad refusals.NoMemory P = Unit {0}

-- A frame with a commit byte after it ends before this offset.
pub record EndsAt (bytes : List ℕ) (gate next : ℕ) : Type 0 where
  pub frame : List Rec
  pub is : IsFrame frame
  pub split : drop (gate + 1) bytes ≡ frame_bytes frame ++ drop next bytes
  pub long : next ≡ gate + 1 + length (frame_bytes frame)

-- These lines more are a frame's records, which begin at this offset.
pub record AddsFrame (frame : List ℕ) (file from : ℕ) (old new : List Line) : Type 0 where
  pub records : List Rec
  pub is : IsFrame records
  pub same : frame ≡ frame_bytes records
  pub lines : new ≡ old ++ record_lines file (record_items from records)

-- These lines more are what a file has from its first commit byte on.
pub record AddsFrames (bytes : List ℕ) (file : ℕ) (old new : List Line) : Type 0 where
  pub frames : List (List Rec)
  pub fault : Option ℕ
  pub goes : Goes (drop 16 bytes) 16 frames fault
  pub lines : new ≡ old ++ (record_lines file (frame_items 16 frames) ++ fault_lines file fault)

-- These lines more are those of a file.
pub record AddsFile (bytes : List ℕ) (file : ℕ) (old new : List Line) : Type 0 where
  pub content : Content
  pub holds : Holds file bytes content
  pub lines : new ≡ old ++ file_lines file content
