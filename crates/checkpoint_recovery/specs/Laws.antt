-- Laws of what a folder recovers to from its newest checkpoint.
use Rattle.std.specs.Prelude.{◌≡◌, ◌≢◌, ◌↔◌, ◌≤◌, ◌+◌, ℕ, List, ◌∷◌, ◌++◌, length, drop, Option, Some, None}
use Rattle.std.specs.List.{AllByRecursion}
use Rattle.flume_host.specs.Folder.{Files}
use Rattle.flume_host.specs.declared.names.FileName.TheVariants.{Check, Log}
use Rattle.event_core.specs.Journal.{Base}
use Rattle.record_form.specs.declared.record.Rec.{Rec}
use Rattle.channel_log.specs.Frames.{opened}
use Rattle.channel_log.specs.Reader.{Goes, frame_items}
use Rattle.channel_replay.specs.declared.line.Line.{Line}
use Rattle.channel_replay.specs.Recover.{IsBadLog, Recovers, empty_start, record_lines}
use Rattle.channel_replay.specs.Start.{Start}
use Rattle.checkpoint.specs.Newest.{ArePassedAbove, IsNewest, IsPassedFile}
use Rattle.checkpoint.specs.Text.{CheckText, check_bytes}
use Rattle.checkpoint.specs.declared.place.Place.{Place}
use Rattle.checkpoint_recovery.specs.Reading.{AllLines, IsInLog, LinesFrom}
use Rattle.checkpoint_recovery.specs.Recovers.{BeginsAt, IsBadLogFrom, IsCheck, RecoversTo}

-- from a place on a folder has one list of lines
abbrev pub HasOneReading : Type 0
HasOneReading = (files : Files) (place : Place) (a b : List Line) → LinesFrom files place a → LinesFrom files place b → a ≡ b

-- and it has some, whatever its files hold
abbrev pub HasSomeReading : Type 0
HasSomeReading = (files : Files) (place : Place) → IsInLog files place → (found : List Line) × LinesFrom files place found

-- After some of its frames a file goes on as from the commit byte there.
abbrev pub ReadsOn : Type 0
ReadsOn =
    (number at : ℕ) (bytes : List ℕ) (front frames : List (List Rec)) (fault : Option ℕ)
    → Goes (drop at bytes) at (front ++ frames) fault
    → Goes (drop (at + length (opened front)) bytes) (at + length (opened front)) frames fault
    × (record_lines number (frame_items at (front ++ frames)) ≡ record_lines number (frame_items at front) ++ record_lines number (frame_items (at + length (opened front)) frames))

-- a folder has one newest checkpoint, or none
abbrev pub HasOneNewest : Type 0
HasOneNewest = (files : Files) (a b : Option ℕ) → IsNewest files a → IsNewest files b → a ≡ b

-- the log files from this number on are the same in both folders
abbrev pub SameFrom : ℕ → Files → Files → Type 0
SameFrom least files later = (n : ℕ) → least ≤ n → later (Log n) ≡ files (Log n)

-- What a checkpoint names is in files from this number on.
pub record NamesFrom (least : ℕ) (c : CheckText) : Type 0 where
  pub place : least ≤ c.place.file
  pub live : AllByRecursion (λ l. least ≤ l.1.file) c.live
  pub puts : AllByRecursion (λ o. AllByRecursion (λ p. least ≤ p.file) o.1) c.puts

-- Where another folder has the files from the least one on that a right checkpoint names, and that checkpoint is its newest, it begins there at the same
-- start, with the same lines after it.
abbrev pub ServesElsewhere : Type 0
ServesElsewhere =
    (files later : Files) (least number : ℕ) (c : CheckText) (start : Start) (found : List Line) → SameFrom least files later → NamesFrom least c
    → IsNewest later (Some number) → later (Check number) ≡ files (Check number) → IsCheck files number c start → LinesFrom files c.place found
    → BeginsAt later start found

-- Where another folder has the same log files, and no checkpoint to be read, these alone decide.
abbrev pub FrontElsewhere : Type 0
FrontElsewhere = (files later : Files) (found : List Line) → SameFrom 0 files later → IsNewest later None → AllLines files found → BeginsAt later empty_start found

-- A checkpoint that is passed over before and after a change of its file is not the newest, nor does it keep another from being that.
abbrev pub PassedIsNotNewest : Type 0
PassedIsNotNewest =
    (files later : Files) (n : ℕ) (newest : Option ℕ) → IsPassedFile (files (Check n)) → IsPassedFile (later (Check n)) → ((m : ℕ) → m ≢ n → later (Check m) ≡ files (Check m))
    → IsNewest files newest → IsNewest later newest

-- An open checkpoint is the newest where each one above it is passed over, whatever stands below it.
abbrev pub OpenIsNewest : Type 0
OpenIsNewest = (files : Files) (n : ℕ) (c : CheckText) → files (Check n) ≡ Some (1 ∷ check_bytes c) → ArePassedAbove files n → IsNewest files (Some n)

-- A folder without a checkpoint recovers to what its log files stand for from the front, and to nothing else.
abbrev pub FrontRecovers : Type 0
FrontRecovers = (files : Files) (left : Base) (txn : ℕ) → IsNewest files None → RecoversTo files left txn ↔ Recovers files left txn

-- and its first fault is theirs
abbrev pub FrontIsBad : Type 0
FrontIsBad = (files : Files) (file at : ℕ) → IsNewest files None → IsBadLogFrom files file at ↔ IsBadLog files file at

-- A folder recovers to the same while a checkpoint is laid, whose file is passed over before and then.
abbrev pub LaidRecovers : Type 0
LaidRecovers =
    (files later : Files) (n : ℕ) (left : Base) (txn : ℕ) → SameFrom 0 files later → IsPassedFile (files (Check n)) → IsPassedFile (later (Check n)) → ((m : ℕ) → m ≢ n → later (Check m) ≡ files (Check m))
    → RecoversTo files left txn → RecoversTo later left txn

-- A folder's newest checkpoint has this number or a greater one, and names files from the least one on.
pub record NeedsFrom (files : Files) (least laid : ℕ) : Type 0 where
  pub number : ℕ
  pub newest : IsNewest files (Some number)
  pub late : laid ≤ number
  pub names : (c : CheckText) (start : Start) → IsCheck files number c start → NamesFrom least c

-- And it recovers to the same without the files below these.
abbrev pub PrunedRecovers : Type 0
PrunedRecovers =
    (files later : Files) (least laid : ℕ) (left : Base) (txn : ℕ) → SameFrom least files later → ((m : ℕ) → laid ≤ m → later (Check m) ≡ files (Check m)) → NeedsFrom files least laid
    → RecoversTo files left txn → RecoversTo later left txn
