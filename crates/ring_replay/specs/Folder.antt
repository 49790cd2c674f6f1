-- What replaying a folder into a ring and a table answers.
use Rattle.std.specs.Prelude.{◌≡◌, ◌≤◌, ℕ, List, [], ◌∷◌, length, false}
use Rattle.std.specs.List.{AllByRecursion}
use Rattle.event_core.specs.Journal.{Base, IsBase}
use Rattle.record_form.specs.declared.record.Rec.TheVariants.{Put}
use Rattle.channel_replay.specs.declared.line.Line.{Line}
use Rattle.channel_replay.specs.declared.line.Line.TheVariants as lines
use Rattle.channel_replay.specs.Marks.{Past}
use Rattle.channel_replay.specs.Recover.{HasFault, LogFile, StandsFrom, empty_start, lines as lines_of}
use Rattle.channel_replay.specs.Start.{Start}
use Rattle.ring_replay.specs.declared.folder.Replayed.{Replayed}
use Rattle.ring_replay.specs.declared.indexing.Indexing.{Indexing}
use Rattle.ring_replay.specs.Indexing.{AreSized, HasItems, Keeps, LinesStand, Places, place_of}

-- whatever marks it was kept of, the first fault of the lines after these has this file and offset
abbrev pub StopsIn : List Line → Indexing → ℕ → ℕ → Type 0
StopsIn found old file at = (places : Places) (s : Start) (past : Past) → LinesStand places found → Keeps places s past old → HasFault s.base past found file at

-- the places of the PUTs of lines, with their events
abbrev pub puts_of : List Line → Places
puts_of [] = []
puts_of (lines.Begins ∷ more) = puts_of more
puts_of (lines.Stands file at (Put txn event) ∷ more) = (place_of file at event, event) ∷ puts_of more
puts_of (lines.Stands file at rec ∷ more) = puts_of more
puts_of (lines.Faulty file at ∷ more) = puts_of more

-- Lines after a start have no fault, and the ring has what they leave, each event at a place of its PUT among them.
pub record IsReplayed (s : Start) (found : List Line) (r : Replayed) : Type 0 where
  pub left : Base
  pub stands : StandsFrom s found left r.next.txn
  pub items : HasItems (puts_of found) r.ring.live left.items
  pub number : r.next.number ≡ left.first

-- and so have the lines of log files, from the front of the first one on
abbrev pub AreReplayed : List LogFile → Replayed → Type 0
AreReplayed logs r = IsReplayed empty_start (lines_of logs) r

-- The ring has so many slots, what is left is free and has numbers that rise below the next one, each pointer has the length of some event, and transactions
-- have numbers from 1 on.
pub record IsReady (capacity : ℕ) (r : Replayed) : Type 0 where
  pub slots : r.ring.slots ≡ capacity
  pub within : length r.ring.live ≤ capacity
  pub top : r.ring.top ≤ r.next.number
  pub free : AllByRecursion (λ l. l.held ≡ false) r.ring.live
  pub txn : 1 ≤ r.next.txn
  pub base : (places : Places) × (left : Base) × IsBase left × HasItems places r.ring.live left.items × (left.first ≡ r.next.number) × AreSized places
