-- What an opening finds in a folder, and what it leaves of it.
use Rattle.std.specs.Prelude.{◌⊎◌, ◌≡◌, ◌<◌, ◌≤◌, ◌-◌, ◌^◌, ℕ, List, [], length, Option, Some, None, IsSome, false}
use Rattle.flume_host.specs.Folder.{Files, IsImage, same_name}
use Rattle.flume_host.specs.Causes.{Rose}
use Rattle.flume_host.specs.Told.{DidPart, LeavesOnly, Settle, Tells, Told, WhereTold, done}
use Rattle.flume_host.specs.declared.names.FileName.{FileName}
use Rattle.flume_host.specs.declared.names.FileName.TheVariants.{Log}
use Rattle.event_core.specs.Journal.{Base}
use Rattle.channel_face.specs.declared.replies.Counter.TheVariants.{File}
use Rattle.channel_face.specs.declared.replies.OpenCause.{OpenCause}
use Rattle.channel_face.specs.declared.replies.OpenCause.TheVariants as causes
use Rattle.channel_log.specs.Writer.{IsBlank, file_of}
use Rattle.checkpoint.specs.Newest.{IsNewest}
use Rattle.checkpoint_reading.specs.Fields.{IsFault}
use Rattle.checkpoint_recovery.specs.Recovers.{IsBadLogFrom, RecoversTo}
use Rattle.checkpoint_opening.specs.declared.refused.OpeningRefused.{OpeningRefused}
use Rattle.checkpoint_opening.specs.declared.refused.OpeningRefused.TheVariants as openings

-- the log file of a number
abbrev pub log_name : Option ℕ → Option FileName
log_name None = None
log_name (Some number) = Some (Log number)

-- the greatest number of a log file, if there is one
abbrev pub IsLastLog : Files → Option ℕ → Type 0
IsLastLog files None = (n : ℕ) → files (Log n) ≡ None
IsLastLog files (Some number) = IsSome (files (Log number)) × ((n : ℕ) → number < n → files (Log n) ≡ None)

-- the last number that a log file may have
abbrev pub last_file : ℕ
last_file = 2 ^ 32 - 1

-- the next numbers of an event and of a transaction fit 64 bits
abbrev pub Fit : Base → ℕ → Type 0
Fit base txn = (base.first < 2 ^ 64) × (txn < 2 ^ 64)

-- A folder opens to what it recovers to from its newest checkpoint on: so many events are within the capacity, and numbers of log files are left.
pub record Opens (files : Files) (capacity : ℕ) (base : Base) (txn : ℕ) : Type 0 where
  pub recovers : RecoversTo files base txn
  pub fits : Fit base txn
  pub within : length base.items ≤ capacity
  pub last : files (Log last_file) ≡ None

-- A folder opens to this where its events are within the capacity and a number of a log file is left: from its newest checkpoint on it recovers to it, and
-- the next numbers fit.
abbrev pub OpensTo : Files → Base → ℕ → Type 0
OpensTo files base txn = RecoversTo files base txn × Fit base txn

-- a folder leaves so many events of which P holds
abbrev pub LeavesSo : Files → (ℕ → Type 0) → Type 0
LeavesSo files P = (base : Base) × (txn : ℕ) × RecoversTo files base txn × P (length base.items)

-- Why a folder does not open. A fault of the disk and out of memory say nothing of the folder.
abbrev pub Refuses : Files → ℕ → OpenCause → Type 0
Refuses files capacity causes.DiskFault = Unit {0}
Refuses files capacity (causes.BadCheck file at) = IsNewest files (Some file) × IsFault files file at
Refuses files capacity (causes.BadLog file at) = IsBadLogFrom files file at
Refuses files capacity (causes.OverCapacity count) = LeavesSo files (λ n. (count ≡ n) × (capacity < n))
Refuses files capacity (causes.Spent counter) = (counter ≡ File) × LeavesSo files (λ n. n ≤ capacity) × IsSome (files (Log last_file))
Refuses files capacity causes.NoMemory = Unit {0}

-- why a folder is not opened that was not read
abbrev pub as_cause : OpeningRefused → OpenCause
as_cause openings.DiskFault = causes.DiskFault
as_cause (openings.BadCheck file at) = causes.BadCheck file at
as_cause (openings.BadLog file at) = causes.BadLog file at
as_cause (openings.OverCapacity count) = causes.OverCapacity count
as_cause openings.NoMemory = causes.NoMemory

-- the number of the log file after those that are there: one above the greatest, or 1
pub record IsNextFile (files : Files) (number : ℕ) : Type 0 where
  pub some : 1 ≤ number
  pub small : number ≤ last_file
  pub none : (n : ℕ) → number ≤ n → files (Log n) ≡ None
  pub last : 1 < number → IsSome (files (Log (number - 1)))

-- A folder has what files had, and a log file after them of which P holds.
pub record GainsLog (files : Files) (P : ℕ → Option (List ℕ) → Type 0) (folder : Files) : Type 0 where
  pub number : ℕ
  pub next : IsNextFile files number
  pub last : P number (folder (Log number))
  pub others : (name : FileName) → same_name name (Log number) ≡ false → folder name ≡ files name

-- a log file that an opening began: its header, and no frame
abbrev pub IsBegun : ℕ → Option (List ℕ) → Type 0
IsBegun number file = file ≡ Some (file_of 1 number [])

abbrev pub AreSame : Files → Files → Type 0
AreSame files folder = (name : FileName) → folder name ≡ files name

-- a folder is as files were, but that a log file after them may be there that counts as empty
abbrev pub IsAsBefore : Files → Files → Type 0
IsAsBefore files folder = AreSame files folder ⊎ GainsLog files (λ number file. IsBlank file) folder

-- after a refusal files are as they were, and after a fault of the disk but for that log file
abbrev pub StaysAs : OpenCause → Files → Files → Type 0
StaysAs causes.DiskFault files folder = IsAsBefore files folder
StaysAs (causes.BadCheck file at) files folder = AreSame files folder
StaysAs (causes.BadLog file at) files folder = AreSame files folder
StaysAs (causes.OverCapacity count) files folder = AreSame files folder
StaysAs (causes.Spent counter) files folder = AreSame files folder
StaysAs causes.NoMemory files folder = AreSame files folder

-- a crash during an opening leaves what it could before, or what reads gave, but for that log file
abbrev pub OpensOver : Told → Told → Type 0
OpensOver t u = LeavesOnly t u (λ image. IsImage t.now image ⊎ IsAsBefore t.reads image)

-- the disk failed to settle, and nothing was done since
abbrev pub FailsToSettle : Option Told → Option Told → Type 0
FailsToSettle told told' = Tells told told' (λ t u. (u ≡ t) ⊎ DidPart Settle t u)

-- and since the opening settled the disk only the latter
abbrev pub OpensFrom : Told → Told → Type 0
OpensFrom t u = LeavesOnly (done Settle t) u (IsAsBefore t.reads)

-- the number that is at its end is that of log files
abbrev pub IsOfFile : OpenCause → Type 0
IsOfFile (causes.Spent counter) = counter ≡ File
IsOfFile cause = Unit {0}

-- An opening was refused for this cause: the folder is the cause, and stays as it was.
pub record IsRefused (told told' : Option Told) (before now capacity : ℕ) (cause : OpenCause) : Type 0 where
  pub why : WhereTold told (λ t. Refuses t.reads capacity cause)
  pub counter : IsOfFile cause
  pub stays : Tells told told' (λ t u. StaysAs cause t.reads u.reads)
  pub images : Tells told told' OpensOver
  pub later : before ≤ now
  pub fault : cause ≡ causes.DiskFault → Rose before now
  pub well : (cause ≡ causes.DiskFault → ⊥) → now ≡ before
