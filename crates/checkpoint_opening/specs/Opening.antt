-- What opening a folder from its newest checkpoint answers.
use Rattle.std.specs.Prelude.{◌≡◌, ◌≤◌, ◌+◌, ℕ, List, length, map, Option, Some, None, IfSome}
use Rattle.std.specs.List.{AllByRecursion}
use Rattle.flume_host.specs.Folder.{Files}
use Rattle.event_core.specs.Journal.{Base}
use Rattle.event_ring.specs.Slots.{Left}
use Rattle.channel_replay.specs.declared.refused.ReplayRefused.{ReplayRefused}
use Rattle.channel_replay.specs.declared.refused.ReplayRefused.TheVariants as replays
use Rattle.channel_replay.specs.declared.line.Line.{Line}
use Rattle.channel_replay.specs.Replay.{record_count}
use Rattle.channel_replay.specs.Start.{Start}
use Rattle.checkpoint.specs.declared.check.Check.{Check}
use Rattle.checkpoint.specs.Newest.{IsNewest}
use Rattle.checkpoint.specs.Right.{LiveAre}
use Rattle.checkpoint.specs.Says.{live_at}
use Rattle.checkpoint.specs.Stands.{IsOrdered, Keeps}
use Rattle.checkpoint.specs.Text.{CheckText}
use Rattle.checkpoint_places.specs.Named.{IsLeastNamed}
use Rattle.checkpoint_reading.specs.declared.refused.CheckReadRefused.{CheckReadRefused}
use Rattle.checkpoint_reading.specs.declared.refused.CheckReadRefused.TheVariants as reads
use Rattle.checkpoint_recovery.specs.Recovers.{BeginsAt, IsCheck, RecoversTo}
use Rattle.checkpoint_opening.specs.declared.opening.NewestCheck.{NewestCheck}
use Rattle.checkpoint_opening.specs.declared.opening.Opened.{Opened}
use Rattle.checkpoint_opening.specs.declared.refused.OpeningRefused.{OpeningRefused}
use Rattle.checkpoint_opening.specs.declared.refused.OpeningRefused.TheVariants as refusals

abbrev pub of_check : CheckReadRefused → OpeningRefused
of_check reads.DiskFault = refusals.DiskFault
of_check (reads.BadCheck file at) = refusals.BadCheck file at
of_check reads.NoMemory = refusals.NoMemory

abbrev pub of_replay : ReplayRefused → OpeningRefused
of_replay replays.DiskFault = refusals.DiskFault
of_replay (replays.BadLog file at) = refusals.BadLog file at
of_replay (replays.OverCapacity count) = refusals.OverCapacity count
of_replay replays.NoMemory = refusals.NoMemory

-- P of the number of a checkpoint and the offset of its fault
abbrev pub WhereBadCheck : OpeningRefused → (ℕ → ℕ → Type 0) → Type 0
WhereBadCheck refusals.DiskFault P = Unit {0}
WhereBadCheck (refusals.BadCheck file at) P = P file at
WhereBadCheck (refusals.BadLog file at) P = Unit {0}
WhereBadCheck (refusals.OverCapacity count) P = Unit {0}
WhereBadCheck refusals.NoMemory P = Unit {0}

-- P of the file and the offset of a fault of the log
abbrev pub WhereBadLog : OpeningRefused → (ℕ → ℕ → Type 0) → Type 0
WhereBadLog refusals.DiskFault P = Unit {0}
WhereBadLog (refusals.BadCheck file at) P = Unit {0}
WhereBadLog (refusals.BadLog file at) P = P file at
WhereBadLog (refusals.OverCapacity count) P = Unit {0}
WhereBadLog refusals.NoMemory P = Unit {0}

-- P of a number of events that is above the capacity
abbrev pub WhereOver : OpeningRefused → (ℕ → Type 0) → Type 0
WhereOver refusals.DiskFault P = Unit {0}
WhereOver (refusals.BadCheck file at) P = Unit {0}
WhereOver (refusals.BadLog file at) P = Unit {0}
WhereOver (refusals.OverCapacity count) P = P count
WhereOver refusals.NoMemory P = Unit {0}

-- the number of a checkpoint, if there is one
abbrev pub number_in : Option NewestCheck → Option ℕ
number_in None = None
number_in (Some named) = Some named.number

-- what is told of a checkpoint that was read: its number, and the least log file that it names
abbrev pub IsNamedBy : Option Check → Option NewestCheck → Type 0
IsNamedBy None None = Unit {0}
IsNamedBy None (Some named) = ⊥
IsNamedBy (Some check) None = ⊥
IsNamedBy (Some check) (Some named) = (named.number ≡ check.number) × ((c : CheckText) → Keeps check c → IsOrdered c → IsLeastNamed named.least c)

-- The checkpoint of this number is right for a folder, and this is the least log file that it names.
pub record IsNamed (files : Files) (named : NewestCheck) : Type 0 where
  pub text : CheckText
  pub start : Start
  pub is : IsCheck files named.number text start
  pub least : IsLeastNamed named.least text

-- each of these stands in a log file from the least one on that the checkpoint names
abbrev pub AreFrom : NewestCheck → List Left → Type 0
AreFrom named live = AllByRecursion (λ l. named.least ≤ l.pointer.file) live

-- The ring has what the folder recovers to, each event with a pointer at which its PUT stands, and these numbers come next. Its newest checkpoint is told, and
-- no pointer is into a file below those that this one names.
pub record IsOpened (files : Files) (o : Opened) : Type 0 where
  pub newest : IsNewest files (number_in o.check)
  pub named : IfSome o.check (λ named. IsNamed files named)
  pub from : IfSome o.check (λ named. AreFrom named o.replayed.ring.live)
  pub left : Base
  pub recovers : RecoversTo files left o.replayed.next.txn
  pub items : LiveAre files (map live_at o.replayed.ring.live) left.items
  pub number : o.replayed.next.number ≡ left.first

-- a folder recovers to so many events
abbrev pub Leaves : Files → ℕ → Type 0
Leaves files count = (left : Base) × (txn : ℕ) × RecoversTo files left txn × (count ≡ length left.items)

-- so many steps were counted at most: one for each record that the folder has after the place from which it is replayed
pub record HasSteps (files : Files) (before now : ℕ) : Type 0 where
  pub start : Start
  pub found : List Line
  pub begins : BeginsAt files start found
  pub few : now ≤ before + record_count found
