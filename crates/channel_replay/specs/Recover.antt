-- What the log files of a folder stand for.
use Rattle.std.specs.Prelude.{◌≡◌, ◌<◌, ◌≤◌, ◌+◌, ◌^◌, ℕ, List, [], ◌∷◌, ◌++◌, Option, Some, None, if◌then◌else◌, ◌==◌, IsSomeAnd, max}
use Rattle.flume_host.specs.Folder.{Files}
use Rattle.flume_host.specs.declared.names.FileName.TheVariants.{Log}
use Rattle.event_core.specs.Journal.{Base, after_journal}
use Rattle.record_form.specs.declared.record.Rec.{Rec}
use Rattle.channel_log.specs.Frames.{Content, Blank, BadHeader, Whole, BadFrame, Holds, fault_of}
use Rattle.channel_log.specs.Reader.{content_items}
pub use Rattle.channel_replay.specs.declared.line.Line.{Line}
pub use Rattle.channel_replay.specs.declared.line.Line.TheVariants.{Begins, Stands, Faulty}
use Rattle.channel_replay.specs.Marks.{Dropped, Applied, Past, journal, next_txn}
use Rattle.channel_replay.specs.Rules.{IsLegal}
use Rattle.channel_replay.specs.Start.{Start, start_past}

-- A log file: its number, and what it holds.
pub record LogFile : Type 0 where
  pub number : ℕ
  pub content : Content

-- a folder has just these log files with numbers from one on and below another, in order
abbrev pub AreLogs : Files → ℕ → ℕ → List LogFile → Type 0
AreLogs files from to [] = (n : ℕ) → from ≤ n → n < to → files (Log n) ≡ None
AreLogs files from to (log ∷ logs) =
    (from ≤ log.number) × (log.number < to) × ((n : ℕ) → from ≤ n → n < log.number → files (Log n) ≡ None)
    × IsSomeAnd (files (Log log.number)) (λ bytes. Holds log.number bytes log.content)
    × AreLogs files (log.number + 1) to logs

-- a file of birth 1 drops what is open, unless it counts as empty
abbrev pub begin_lines : Content → List Line
begin_lines Blank = []
begin_lines BadHeader = []
begin_lines (Whole birth frames) = if birth == 1 then Begins ∷ [] else []
begin_lines (BadFrame birth frames) = if birth == 1 then Begins ∷ [] else []

abbrev pub record_lines : ℕ → List (Rec × ℕ) → List Line
record_lines number [] = []
record_lines number (item ∷ items) = Stands number item.1 item.0 ∷ record_lines number items

abbrev pub fault_lines : ℕ → Option ℕ → List Line
fault_lines number None = []
fault_lines number (Some at) = Faulty number at ∷ []

-- the records of a file's committed frames, and then its fault, if it has one
abbrev pub file_lines : ℕ → Content → List Line
file_lines number content = begin_lines content ++ (record_lines number (content_items content) ++ fault_lines number (fault_of content))

abbrev pub lines : List LogFile → List Line
lines [] = []
lines (log ∷ logs) = file_lines log.number log.content ++ lines logs

-- the marks after a line, and after lines
abbrev pub past_line : Past → Line → Past
past_line past Begins = Dropped ∷ past
past_line past (Stands file at rec) = Applied rec ∷ past
past_line past (Faulty file at) = past

abbrev pub past_lines : Past → List Line → Past
past_lines past [] = past
past_lines past (line ∷ lines) = past_lines (past_line past line) lines

-- a line without fault after these marks: its record is legal
abbrev pub IsSound : Base → Past → Line → Type 0
IsSound base past Begins = Unit {0}
IsSound base past (Stands file at rec) = IsLegal base past rec
IsSound base past (Faulty file at) = ⊥

-- each of the lines is without fault
abbrev pub AreSound : Base → Past → List Line → Type 0
AreSound base past [] = Unit {0}
AreSound base past (line ∷ lines) = IsSound base past line × AreSound base (past_line past line) lines

-- where the line stands
abbrev pub IsAt : Line → ℕ → ℕ → Type 0
IsAt Begins file at = ⊥
IsAt (Stands f a rec) file at = (file ≡ f) × (at ≡ a)
IsAt (Faulty f a) file at = (file ≡ f) × (at ≡ a)

-- The first line at fault has this file and offset.
pub record HasFault (base : Base) (past : Past) (lines : List Line) (file at : ℕ) : Type 0 where
  pub before : List Line
  pub line : Line
  pub behind : List Line
  pub split : lines ≡ before ++ line ∷ behind
  pub sound : AreSound base past before
  pub bad : IsSound base (past_lines past before) line → ⊥
  pub place : IsAt line file at

-- the base of a folder without checkpoints: no events, and the first number is 0
abbrev pub empty_base : Base
empty_base = record { items = []; first = 0 }

-- the start of a folder without checkpoints
abbrev pub empty_start : Start
empty_start = record { base = empty_base; opened = []; txn = 1 }

-- what lines leave after a start
abbrev pub replayed : Start → List Line → Base
replayed s found = after_journal s.base (journal (past_lines (start_past s) found))

-- Lines after a start have no fault. What is left is what the commits leave of the base, with the next event number and the next transaction number.
pub record StandsFrom (s : Start) (found : List Line) (left : Base) (txn : ℕ) : Type 0 where
  pub sound : AreSound s.base (start_past s) found
  pub left_is : left ≡ replayed s found
  pub txn_is : txn ≡ max s.txn (next_txn (past_lines (start_past s) found))

-- lines after a start have their first fault here
abbrev pub IsBadFrom : Start → List Line → ℕ → ℕ → Type 0
IsBadFrom s found file at = HasFault s.base (start_past s) found file at

-- the log files have no fault, and leave this
abbrev pub StandsFor : List LogFile → Base → ℕ → Type 0
StandsFor logs left txn = StandsFrom empty_start (lines logs) left txn

-- the log files have their first fault here
abbrev pub IsBad : List LogFile → ℕ → ℕ → Type 0
IsBad logs file at = IsBadFrom empty_start (lines logs) file at

-- P of the log files of a folder; file numbers are below 2 ^ 32
abbrev pub WhereLogs : Files → (List LogFile → Type 0) → Type 0
WhereLogs files P = (logs : List LogFile) → AreLogs files 0 (2 ^ 32) logs → P logs

-- a folder recovers to this list with its next number, and to this next transaction number
abbrev pub Recovers : Files → Base → ℕ → Type 0
Recovers files left txn = WhereLogs files (λ logs. StandsFor logs left txn)

-- the first fault of a folder's log files has this file and offset
abbrev pub IsBadLog : Files → ℕ → ℕ → Type 0
IsBadLog files file at = WhereLogs files (λ logs. IsBad logs file at)
