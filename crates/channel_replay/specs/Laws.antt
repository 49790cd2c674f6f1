-- Laws of what the log files of a folder stand for.
use Rattle.std.specs.Prelude.{◌≡◌, ◌^◌, ℕ, List}
use Rattle.flume_host.specs.Folder.{Files}
use Rattle.event_core.specs.Journal.{Base}
use Rattle.channel_replay.specs.Recover.{AreLogs, IsBadLog, LogFile, Recovers}

-- a folder has one list of log files, whatever they hold
abbrev pub HasOneList : Type 0
HasOneList = (files : Files) → (logs : List LogFile) × AreLogs files 0 (2 ^ 32) logs × ((others : List LogFile) → AreLogs files 0 (2 ^ 32) others → others ≡ logs)

-- and recovers to one list with its next number, and to one transaction number
abbrev pub RecoversOnce : Type 0
RecoversOnce = (files : Files) (a b : Base) (x y : ℕ) → Recovers files a x → Recovers files b y → (a ≡ b) × (x ≡ y)

-- a folder that recovers has no fault
abbrev pub RecoversOrBad : Type 0
RecoversOrBad = (files : Files) (left : Base) (txn file at : ℕ) → Recovers files left txn → IsBadLog files file at → ⊥

-- and the first fault of a folder is one
abbrev pub HasOneFault : Type 0
HasOneFault = (files : Files) (file at file' at' : ℕ) → IsBadLog files file at → IsBadLog files file' at' → (file ≡ file') × (at ≡ at')
