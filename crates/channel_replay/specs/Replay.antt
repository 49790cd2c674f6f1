-- What replaying a folder answers.
use Rattle.std.specs.Prelude.{◌≡◌, ◌+◌, ◌^◌, ℕ, List, [], ◌∷◌, length, Option, Some, None, Bool, if◌then◌else◌}
use Rattle.flume_host.specs.Told.{Told}
use Rattle.flume_host.specs.declared.names.FileName.{FileName}
use Rattle.flume_host.specs.declared.names.FileName.TheVariants.{Log, Check}
use Rattle.event_core.specs.Journal.{Base}
use Rattle.channel_log.specs.Frames.{Content, Holds}
use Rattle.channel_log.specs.Reader.{HasFile}
use Rattle.channel_log.specs.declared.loading.FrameRefused.{FrameRefused}
use Rattle.channel_log.specs.declared.loading.FrameRefused.TheVariants as frames
use Rattle.channel_replay.specs.declared.recovery.Recovery.{Recovery}
use Rattle.channel_replay.specs.declared.refused.RecoverRefused.{RecoverRefused}
use Rattle.channel_replay.specs.declared.refused.RecoverRefused.TheVariants as records
use Rattle.channel_replay.specs.declared.refused.ReplayRefused.{ReplayRefused}
use Rattle.channel_replay.specs.declared.refused.ReplayRefused.TheVariants as refusals
use Rattle.channel_replay.specs.Marks.{Past}
use Rattle.channel_replay.specs.Recover.{AreSound, Begins, Faulty, Line, LogFile, Stands, StandsFor, past_lines}
use Rattle.channel_replay.specs.Recovery.{Agrees}

-- how many records there are
abbrev pub record_count : List Line → ℕ
record_count [] = 0
record_count (Begins ∷ lines) = record_count lines
record_count (Stands file at rec ∷ lines) = record_count lines + 1
record_count (Faulty file at ∷ lines) = record_count lines

-- P of the file and the offset of a fault of the log
abbrev pub WhereBadLog : ReplayRefused → (ℕ → ℕ → Type 0) → Type 0
WhereBadLog refusals.DiskFault P = Unit {0}
WhereBadLog (refusals.BadLog file at) P = P file at
WhereBadLog (refusals.OverCapacity count) P = Unit {0}
WhereBadLog refusals.NoMemory P = Unit {0}

-- P of a number of events that is above the capacity
abbrev pub WhereOver : ReplayRefused → (ℕ → Type 0) → Type 0
WhereOver refusals.DiskFault P = Unit {0}
WhereOver (refusals.BadLog file at) P = Unit {0}
WhereOver (refusals.OverCapacity count) P = P count
WhereOver refusals.NoMemory P = Unit {0}

abbrev pub as_frame : FrameRefused → ReplayRefused
as_frame frames.DiskFault = refusals.DiskFault
as_frame (frames.BadLog file at) = refusals.BadLog file at
as_frame frames.NoMemory = refusals.NoMemory

abbrev pub as_record : RecoverRefused → ReplayRefused
as_record (records.BadLog file at) = refusals.BadLog file at
as_record records.NoMemory = refusals.NoMemory

-- so many events are left
abbrev pub LeavesCount : List LogFile → ℕ → Type 0
LeavesCount logs count = (left : Base) × (txn : ℕ) × StandsFor logs left txn × (count ≡ length left.items)

-- P of what the file holds
abbrev pub WhereHolds : Option Told → ℕ → (Content → Type 0) → Type 0
WhereHolds told file P = (bytes : List ℕ) (content : Content) → HasFile told file bytes → Holds file bytes content → P content

-- whenever what was kept agreed with some marks, the lines are sound after these, and what is kept then agrees with them too
abbrev pub AppliesAll : List Line → Recovery → Recovery → Type 0
AppliesAll lines old new = (base : Base) (past : Past) → Agrees base past old → AreSound base past lines × Agrees base (past_lines past lines) new

-- the least number of a log file above a name
abbrev pub floor : Option FileName → ℕ
floor None = 0
floor (Some (Log n)) = n + 1
floor (Some (Check n)) = 2 ^ 32

-- the line by which a file drops what is open
abbrev pub drop_lines : Bool → List Line
drop_lines drops = if drops then Begins ∷ [] else []
