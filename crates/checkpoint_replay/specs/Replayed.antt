-- What replaying a folder from a checkpoint answers.
use Rattle.std.specs.Prelude.{◌≡◌, ℕ, List, length, map, Option, Some, None}
use Rattle.std.specs.List.{AllByRecursion}
use Rattle.flume_host.specs.Folder.{Files}
use Rattle.flume_host.specs.Told.{Told, WhereTold}
use Rattle.event_core.specs.Journal.{Base}
use Rattle.channel_replay.specs.declared.line.Line.{Line}
use Rattle.channel_replay.specs.Recover.{StandsFrom, empty_start, replayed}
use Rattle.channel_replay.specs.Start.{Start}
use Rattle.checkpoint.specs.declared.check.Check.{Check}
use Rattle.checkpoint.specs.Right.{LiveAre, PutIn}
use Rattle.checkpoint.specs.Says.{live_at}
use Rattle.checkpoint.specs.Stands as checks
use Rattle.checkpoint.specs.Stands.{IsOrdered}
use Rattle.checkpoint.specs.Text.{CheckText}
use Rattle.checkpoint_recovery.specs.Reading.{AllLines, LinesFrom}
use Rattle.ring_replay.specs.declared.folder.Replayed.{Replayed}
use Rattle.ring_replay.specs.Indexing.{AreSized, Places}
use Rattle.checkpoint_replay.specs.Checked.{IsPlacedAt}

-- A checkpoint that was read is right for a folder, in which it stands for this start.
pub record IsStartOf (files : Files) (check : Check) (start : Start) : Type 0 where
  pub stands : checks.Stands files check start.base.items start.opened
  pub number : start.base.first ≡ check.next.number
  pub txn : start.txn ≡ check.next.txn

-- a folder is replayed from this start, after which it has these lines: from a checkpoint's place on, or without one from the front
abbrev pub StartsAt : Files → Option Check → Start → List Line → Type 0
StartsAt files None start found = (start ≡ empty_start) × AllLines files found
StartsAt files (Some check) start found = IsStartOf files check start × LinesFrom files check.place found

-- P of a folder, where its replay starts and the lines after that
abbrev pub WhereStarts : Option Told → Option Check → (Files → Start → List Line → Type 0) → Type 0
WhereStarts told check P = WhereTold told (λ t. (start : Start) (found : List Line) → StartsAt t.reads check start found → P t.reads start found)

-- Lines after a start have no fault, and the ring has what they leave, each event with a pointer at which its PUT stands in the folder.
pub record IsReplayedFrom (files : Files) (start : Start) (found : List Line) (r : Replayed) : Type 0 where
  pub left : Base
  pub stands : StandsFrom start found left r.next.txn
  pub items : LiveAre files (map live_at r.ring.live) left.items
  pub number : r.next.number ≡ left.first

-- In each folder that is replayed from the same start with the same lines the events stand at the pointers of the ring.
abbrev pub StandElsewhere : Option Check → Start → List Line → Replayed → Type 0
StandElsewhere check start found r = (folder : Files) → StartsAt folder check start found → LiveAre folder (map live_at r.ring.live) (replayed start found).items

-- so many events are left
abbrev pub LeavesFrom : Start → List Line → ℕ → Type 0
LeavesFrom start found count = (left : Base) × (txn : ℕ) × StandsFrom start found left txn × (count ≡ length left.items)

-- Ring and table are those of a checkpoint whose numbers are in order and whose pointers have lengths of events, also where a disk shows nothing.
pub record HasEvents (check : Check) : Type 0 where
  pub c : CheckText
  pub keeps : checks.Keeps check c
  pub ordered : IsOrdered c
  pub places : Places
  pub start : Start
  pub placed : IsPlacedAt places c start
  pub sized : AreSized places

-- the checkpoint, if there is one, is right for the folder
abbrev pub IsRightFor : Files → Option Check → Type 0
IsRightFor files None = Unit {0}
IsRightFor files (Some check) = (start : Start) × IsStartOf files check start

-- at each place the PUT of its event stands in the folder
abbrev pub AreIn : Files → Places → Type 0
AreIn files places = AllByRecursion (λ k. PutIn files k.0 k.1) places
