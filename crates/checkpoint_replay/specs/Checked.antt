-- A checkpoint from which a log is replayed.
use Rattle.std.specs.Prelude.{◌≡◌, ℕ, List, [], ◌∷◌}
use Rattle.event_core.specs.Content.{Content}
use Rattle.event_core.specs.declared.journal.Entry.{Entry}
use Rattle.event_core.specs.declared.journal.Entry.TheVariants.{Puts, Takes}
use Rattle.record_form.specs.declared.record.Pointer.{Pointer}
use Rattle.channel_replay.specs.Start.{Start, start_past}
use Rattle.checkpoint.specs.declared.check.Check.{Check}
use Rattle.checkpoint.specs.Stands as checks
use Rattle.checkpoint.specs.Stands.{IsOrdered}
use Rattle.checkpoint.specs.Text.{CheckText}
use Rattle.ring_replay.specs.declared.indexing.Indexing.{Indexing}
use Rattle.ring_replay.specs.Indexing.{ArePlaced, IsPlaced, Keeps, Places}

-- these events are placed at the pointers, under the same numbers
abbrev pub LivePlaced : Places → List (ℕ × Pointer) → List (ℕ × Content) → Type 0
LivePlaced places [] [] = Unit {0}
LivePlaced places [] (item ∷ items) = ⊥
LivePlaced places (l ∷ live) [] = ⊥
LivePlaced places (l ∷ live) (item ∷ items) = (l.0 ≡ item.0) × IsPlaced places l.1 item.1 × LivePlaced places live items

-- these are open, puts before takes, each put at its pointer
abbrev pub OpenPlaced : Places → List (ℕ × List Pointer) → List (ℕ × List ℕ) → List (ℕ × Entry) → Type 0
OpenPlaced places (o ∷ puts) takes ((txn, Puts events) ∷ opened) = (txn ≡ o.0) × ArePlaced places o.1 events × OpenPlaced places puts takes opened
OpenPlaced places [] (o ∷ takes) ((txn, Takes numbers) ∷ opened) = (txn ≡ o.0) × (numbers ≡ o.1) × OpenPlaced places [] takes opened
OpenPlaced places [] [] [] = Unit {0}
OpenPlaced places puts takes opened = ⊥

-- A checkpoint stands for this start, its events being at these places.
pub record IsPlacedAt (places : Places) (c : CheckText) (start : Start) : Type 0 where
  pub live : LivePlaced places c.live start.base.items
  pub opens : OpenPlaced places c.puts c.takes start.opened
  pub number : start.base.first ≡ c.next.number
  pub txn : start.txn ≡ c.next.txn

-- What a replay begins with is just the ring, the table and the next numbers of a checkpoint.
pub record IsOfCheck (check : Check) (index : Indexing) : Type 0 where
  pub live : index.ring.live ≡ check.ring.live
  pub top : index.ring.top ≡ check.ring.top
  pub slots : index.ring.slots ≡ index.slots
  pub table : index.table ≡ check.table
  pub number : index.next.number ≡ check.next.number
  pub txn : index.next.txn ≡ check.next.txn

-- What a replay begins with from a checkpoint, whose numbers are in order, is kept of no marks but those of what is open at its start.
abbrev pub ChecksAreKept : Type 0
ChecksAreKept =
    (check : Check) (c : CheckText) (places : Places) (start : Start) (index : Indexing) → checks.Keeps check c → IsOrdered c → IsPlacedAt places c start → IsOfCheck check index
    → Keeps places start (start_past start) index
