-- How the log of a channel goes on in a folder.
use Rattle.std.specs.Prelude.{◌≡◌, ◌⊎◌, ◌==◌, ◌<◌, ◌≤◌, ◌^◌, ℕ, List, [], ◌∷◌, ◌++◌, IsSomeAnd, if◌then◌else◌}
use Rattle.flume_host.specs.Folder.{Files}
use Rattle.flume_host.specs.declared.names.FileName.TheVariants.{Log}
use Rattle.record_form.specs.declared.record.Rec.{Rec}
use Rattle.channel_face.specs.Machine.{State}
use Rattle.channel_log.specs.Writer.{HasFrames}
use Rattle.channel_replay.specs.declared.line.Line.{Line}
use Rattle.channel_replay.specs.Marks.{Past, Dropped, open_txns}
use Rattle.channel_replay.specs.Recover.{AreSound, past_lines}
use Rattle.channel_replay.specs.Start.{Start, start_past}
use Rattle.checkpoint_recovery.specs.Recovers.{BeginsAt}
use Rattle.channel_writing.specs.Mirrors.{AreLegal, Mirrors, applied}

-- the records of frames
abbrev pub flat : List (List Rec) → List Rec
flat [] = []
flat (frame ∷ frames) = frame ++ flat frames

-- the marks where a file of this birth is entered: one that an opening began drops what is open, and one that follows a full file does not
abbrev pub entered : ℕ → Past → Past
entered birth past = if birth == 1 then Dropped ∷ past else past

-- the marks at the place after these frames of a file: before the first one the file is only to be entered
abbrev pub entered_at : ℕ → List (List Rec) → Past → Past
entered_at birth [] past = entered birth past
entered_at birth (frame ∷ frames) past = past

-- The marks that were found are these and those of more frames; or the file of these frames has none yet, and is entered only once it has.
abbrev pub AreMarks : ℕ → Past → Past → List (List Rec) → List (List Rec) → Type 0
AreMarks birth found past frames more = (found ≡ applied past (flat more)) ⊎ ((frames ≡ []) × (more ≡ []) × (past ≡ entered birth found))

-- A folder begins at this start, and its last log file has these frames, up to which it has these marks, and then more. Its lines are sound as far as the records of these are legal.
pub record GoesOn (folder : Files) (start : Start) (past : Past) (birth : ℕ) (frames more : List (List Rec)) : Type 0 where
  pub found : List Line
  pub begins : BeginsAt folder start found
  pub sound : AreLegal start.base past (flat more) → AreSound start.base (start_past start) found
  pub marks : AreMarks birth (past_lines (start_past start) found) past frames more

-- A channel's log in a folder: from some start on it has the marks up to these frames of its last file and then these records, which mirror the
-- channel's state, and it goes on so whichever frames the file has after its own.
pub record Logs (folder : Files) (birth number : ℕ) (s : State) (frames : List (List Rec)) (records : List Rec) : Type 0 where
  pub start : Start
  pub past : Past
  pub goes : (more : List (List Rec)) → IsSomeAnd (folder (Log number)) (HasFrames birth number (frames ++ more)) → GoesOn folder start past birth frames more
  -- where an opening began the file, and it has no frame yet, nothing that is open has a record before its own
  pub fresh : birth ≡ 1 → frames ≡ [] → open_txns past ≡ []
  pub low : start.txn ≤ s.txn
  pub fits : start.base.first < 2 ^ 64
  pub mirrors : Mirrors start.base s past records
