-- The lines of a folder's log from a place on.
use Rattle.std.specs.Prelude.{◌≡◌, ◌<◌, ◌≤◌, ◌+◌, ◌^◌, ℕ, List, [], ◌∷◌, ◌++◌, length, drop, Option, IsSomeAnd}
use Rattle.flume_host.specs.Folder.{Files}
use Rattle.flume_host.specs.declared.names.FileName.TheVariants.{Log}
use Rattle.record_form.specs.declared.record.Rec.{Rec}
use Rattle.channel_log.specs.Frames.{BadHeader, Content, HasHeader, Holds}
use Rattle.channel_log.specs.Reader.{Goes, frame_items}
use Rattle.channel_replay.specs.declared.line.Line.{Line}
use Rattle.channel_replay.specs.declared.line.Line.TheVariants.{Faulty}
use Rattle.channel_replay.specs.Recover.{AreLogs, LogFile, fault_lines, file_lines, lines, record_lines}
use Rattle.checkpoint.specs.declared.place.Place.{Place}

-- its file is there, and it is an offset in that, at the first commit byte or after it
abbrev pub IsInLog : Files → Place → Type 0
IsInLog files place = IsSomeAnd (files (Log place.file)) (λ bytes. (16 ≤ place.at) × (place.at < length bytes))

-- From a commit byte after the first one a file with a right header has these lines.
pub record ReadsBehind (number : ℕ) (bytes : List ℕ) (at : ℕ) (found : List Line) : Type 0 where
  pub birth : ℕ
  pub header : HasHeader birth number bytes (λ rest. Unit {0})
  pub frames : List (List Rec)
  pub fault : Option ℕ
  pub goes : Goes (drop at bytes) at frames fault
  pub lines_are : found ≡ record_lines number (frame_items at frames) ++ fault_lines number fault

-- From a commit byte on a file has these lines: from the first one, at offset 16, all that it has; after that one its header is tested alike.
pub data HasFrom (number : ℕ) (bytes : List ℕ) (at : ℕ) (found : List Line) : Type 0 where
  Whole : at ≡ 16 → (content : Content) → Holds number bytes content → found ≡ file_lines number content → HasFrom number bytes at found
  Wrong : 16 < at → Holds number bytes BadHeader → found ≡ Faulty number 0 ∷ [] → HasFrom number bytes at found
  Behind : 16 < at → 17 < length bytes → ReadsBehind number bytes at found → HasFrom number bytes at found

-- From a place on a folder has these lines: those of its file from there on, and those of the files after it.
pub record LinesFrom (files : Files) (place : Place) (found : List Line) : Type 0 where
  pub own : List Line
  pub logs : List LogFile
  pub there : IsSomeAnd (files (Log place.file)) (λ bytes. HasFrom place.file bytes place.at own)
  pub behind : AreLogs files (place.file + 1) (2 ^ 32) logs
  pub lines_are : found ≡ own ++ lines logs

-- all lines of a folder
pub record AllLines (files : Files) (found : List Line) : Type 0 where
  pub logs : List LogFile
  pub are : AreLogs files 0 (2 ^ 32) logs
  pub lines_are : found ≡ lines logs
