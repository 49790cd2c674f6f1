-- What a replay into a ring and a table keeps of the marks that it has applied.
use Rattle.std.specs.Prelude.{◌≡◌, ◌⊎◌, ◌↔◌, ◌<◌, ◌≤◌, ◌+◌, ◌-◌, ◌^◌, ℕ, List, [], ◌∷◌, ◌++◌, length, max, Option, Some, None, is_some, Bool, true, false, not, if◌then◌else◌}
use Rattle.std.specs.List.{AllByRecursion}
use Rattle.event_core.specs.Content as contents
use Rattle.event_core.specs.Content.{Content}
use Rattle.event_core.specs.Journal.{IsBase, is_among, left, taken_numbers}
use Rattle.event_core.specs.declared.journal.Entry.{Entry}
use Rattle.event_core.specs.declared.journal.Entry.TheVariants as entries
use Rattle.record_form.specs.declared.record.Outline.{Outline}
use Rattle.record_form.specs.declared.record.Outline.TheVariants as outlines
use Rattle.record_form.specs.declared.record.Pointer.{Pointer}
use Rattle.record_form.specs.declared.record.Rec.{Rec}
use Rattle.record_form.specs.declared.record.Rec.TheVariants.{Put, Take, Rollback, CommitPut, CommitTake, End}
use Rattle.event_ring.specs.Slots.{Index, Left}
use Rattle.open_table.specs.Tables.{HasAt, Listed, Open, Puts, Table, Takes, is_puts, open_at, size, takes_of}
use Rattle.ring_replay.specs.declared.indexing.Indexing.{Indexing}
use Rattle.channel_replay.specs.declared.line.Line.{Line}
use Rattle.channel_replay.specs.declared.line.Line.TheVariants as lines
use Rattle.channel_replay.specs.Marks.{Applied, IsHeld, IsLeft, Past, journal, next_number, next_txn, numbers_of, open_txns, opened}
use Rattle.channel_replay.specs.Recover.{AreSound, IsSound, past_lines}
use Rattle.channel_replay.specs.Rules.{IsLegal}
use Rattle.channel_replay.specs.Start.{AreApart, Start}

-- the places of records, each with its event
abbrev pub Places : Type 0
Places = List (Pointer × Content)

-- the event has its record at the place
abbrev pub IsPlaced : Places → Pointer → Content → Type 0
IsPlaced [] place event = ⊥
IsPlaced (p ∷ places) place event = ((p.0 ≡ place) × (p.1 ≡ event)) ⊎ IsPlaced places place event

-- and so have these, one by one
abbrev pub ArePlaced : Places → List Pointer → List Content → Type 0
ArePlaced places [] [] = Unit {0}
ArePlaced places [] (event ∷ events) = ⊥
ArePlaced places (p ∷ pointers) [] = ⊥
ArePlaced places (p ∷ pointers) (event ∷ events) = IsPlaced places p event × ArePlaced places pointers events

-- the ring has these events, in order
abbrev pub HasItems : Places → List Left → List (ℕ × Content) → Type 0
HasItems places [] [] = Unit {0}
HasItems places [] (item ∷ items) = ⊥
HasItems places (l ∷ live) [] = ⊥
HasItems places (l ∷ live) (item ∷ items) = (l.number ≡ item.0) × IsPlaced places l.pointer item.1 × HasItems places live items

-- a list of the table has what a transaction has open
abbrev pub IsListed : Places → Listed → Entry → Type 0
IsListed places (Puts pointers) (entries.Puts events) = ArePlaced places pointers events
IsListed places (Takes numbers) (entries.Takes others) = numbers ≡ others
IsListed places listed entry = ⊥

-- and it has none where there is none
abbrev pub HasEntry : Places → Option Open → Option Entry → Type 0
HasEntry places None None = Unit {0}
HasEntry places None (Some entry) = ⊥
HasEntry places (Some o) None = ⊥
HasEntry places (Some o) (Some entry) = IsListed places o.listed entry

-- Numbers rise after the start, and those that are held or taken are below the next one. What is open takes events that are left, each once.
pub record AreTaken (s : Start) (past : Past) : Type 0 where
  pub base : IsBase s.base
  pub held_below : (t n : ℕ) → next_number s.base past ≤ n → is_among (numbers_of (opened t past)) n ≡ false
  pub taken_below : (n : ℕ) → next_number s.base past ≤ n → is_among (taken_numbers (journal past)) n ≡ false
  pub there : (t n : ℕ) → is_among (numbers_of (opened t past)) n ≡ true → IsLeft s.base past n
  pub once : (t other n : ℕ) → is_among (numbers_of (opened t past)) n ≡ true → is_among (numbers_of (opened other past)) n ≡ true → t ≡ other
  pub apart : (t : ℕ) → AreApart (numbers_of (opened t past))

-- The ring has what the marks leave after a start, with what is taken held; the table has what they have open.
pub record Keeps (places : Places) (s : Start) (past : Past) (r : Indexing) : Type 0 where
  pub items : HasItems places r.ring.live (left s.base (journal past))
  pub held : AllByRecursion (λ l. (l.held ≡ true) ↔ IsHeld past l.number) r.ring.live
  pub slots : r.ring.slots ≡ r.slots
  pub top : r.ring.top ≤ r.next.number
  pub number : r.next.number ≡ next_number s.base past
  pub txn : r.next.txn ≡ max s.txn (next_txn past)
  pub each : (t : ℕ) → HasEntry places (open_at r.table t) (opened t past)
  pub as_many : length r.table ≡ length (open_txns past)
  pub taken : AreTaken s past

-- each place has its event's length
abbrev pub AreSized : Places → Type 0
AreSized [] = Unit {0}
AreSized (p ∷ places) = (contents.size p.1 ≡ p.0.length) × AreSized places

-- some marks after some start lead to it
abbrev pub IsKept : Indexing → Type 0
IsKept r = (places : Places) × (s : Start) × (past : Past) × Keeps places s past r × AreSized places

-- a PUT stands at its place, and other records stand anywhere
abbrev pub StandsAt : Places → Pointer → Rec → Type 0
StandsAt places place (Put txn event) = IsPlaced places place event
StandsAt places place (Take txn number) = Unit {0}
StandsAt places place (Rollback txn) = Unit {0}
StandsAt places place (CommitPut txn first count) = Unit {0}
StandsAt places place (CommitTake txn count) = Unit {0}
StandsAt places place (End count) = Unit {0}

-- a record was applied, where it is legal
abbrev pub Goes : Bool → Places → Start → Past → Rec → Indexing → Type 0
Goes true places s past rec new = IsLegal s.base past rec × Keeps places s (Applied rec ∷ past) new
Goes false places s past rec new = IsLegal s.base past rec → ⊥

-- whatever marks it was kept of, the record was applied to these, where it is legal
abbrev pub GoesOn : Bool → Indexing → Pointer → Rec → Indexing → Type 0
GoesOn legal old place rec new = (places : Places) (s : Start) (past : Past) → StandsAt places place rec → Keeps places s past old → Goes legal places s past rec new

-- a record of this outline was applied, where it is legal
abbrev pub GoesBy : Bool → Indexing → Pointer → Outline → Indexing → Type 0
GoesBy legal old place (outlines.Put txn length) new = (event : Content) → GoesOn legal old place (Put txn event) new
GoesBy legal old place (outlines.Take txn number) new = GoesOn legal old place (Take txn number) new
GoesBy legal old place (outlines.Rollback txn) new = GoesOn legal old place (Rollback txn) new
GoesBy legal old place (outlines.CommitPut txn first count) new = GoesOn legal old place (CommitPut txn first count) new
GoesBy legal old place (outlines.CommitTake txn count) new = GoesOn legal old place (CommitTake txn count) new
GoesBy legal old place (outlines.End count) new = GoesOn legal old place (End count) new

-- the transaction that an outline names
abbrev pub outline_txn : Outline → ℕ
outline_txn (outlines.Put txn length) = txn
outline_txn (outlines.Take txn number) = txn
outline_txn (outlines.Rollback txn) = txn
outline_txn (outlines.CommitPut txn first count) = txn
outline_txn (outlines.CommitTake txn count) = txn
outline_txn (outlines.End count) = 0

-- the length of the event that an outline names
abbrev pub outline_length : Outline → ℕ
outline_length (outlines.Put txn length) = length
outline_length (outlines.Take txn number) = 0
outline_length (outlines.Rollback txn) = 0
outline_length (outlines.CommitPut txn first count) = 0
outline_length (outlines.CommitTake txn count) = 0
outline_length (outlines.End count) = 0

-- these numbers are held no longer
abbrev pub freed : List ℕ → List Left → List Left
freed numbers [] = []
freed numbers (l ∷ live) = (if is_among numbers l.number then record l { held = false } else l) ∷ freed numbers live

-- the events but those of these numbers
abbrev pub lacking : List ℕ → List Left → List Left
lacking numbers [] = []
lacking numbers (l ∷ live) = if is_among numbers l.number then lacking numbers live else l ∷ lacking numbers live

-- events at these places, with numbers from this one on
abbrev pub placed : ℕ → List Pointer → List Left
placed number [] = []
placed number (p ∷ pointers) = record { number = number; pointer = p; held = false } ∷ placed (number + 1) pointers

-- The events are the last ones of the ring.
pub record IsAppended (first : ℕ) (pointers : List Pointer) (old new : Index) : Type 0 where
  pub slots : new.slots ≡ old.slots
  pub top : new.top ≤ first + length pointers
  pub live : new.live ≡ old.live ++ placed first pointers

-- The place of a line's PUT has its event's length.
abbrev pub place_of : ℕ → ℕ → Content → Pointer
place_of file at event = record { file = file; at = at; length = contents.size event }

-- each PUT of the lines stands at its place
abbrev pub LinesStand : Places → List Line → Type 0
LinesStand places [] = Unit {0}
LinesStand places (lines.Begins ∷ more) = LinesStand places more
LinesStand places (lines.Stands file at (Put txn event) ∷ more) = IsPlaced places (place_of file at event) event × LinesStand places more
LinesStand places (lines.Stands file at rec ∷ more) = LinesStand places more
LinesStand places (lines.Faulty file at ∷ more) = LinesStand places more

-- whatever marks it was kept of, the lines are sound after these, and it is kept of them too
abbrev pub GoesThrough : List Line → Indexing → Indexing → Type 0
GoesThrough found old new = (places : Places) (s : Start) (past : Past) → LinesStand places found → Keeps places s past old → AreSound s.base past found × Keeps places s (past_lines past found) new

-- whatever marks it was kept of, the line is at fault after these
abbrev pub StopsAt : Line → Indexing → Type 0
StopsAt line old = (places : Places) (s : Start) (past : Past) → LinesStand places (line ∷ []) → Keeps places s past old → IsSound s.base past line → ⊥

-- an event that was looked at is there and free
abbrev pub free_of : Option (Pointer × Bool) → Bool
free_of None = false
free_of (Some looked) = not looked.1

-- what a transaction has, or nothing yet
abbrev pub listed_or : Bool → Option Open → Listed
listed_or puts (Some o) = o.listed
listed_or true None = Puts []
listed_or false None = Takes []

-- A transaction of this kind is open, with what it had, and with room for one more.
pub record IsOpened (puts : Bool) (txn : ℕ) (old new : Table) : Type 0 where
  pub kind : is_puts (listed_or puts (open_at old txn)) ≡ puts
  pub may : open_at old txn ≡ None → length old < 1024
  pub opened : Open
  pub listed : opened.listed ≡ listed_or puts (open_at old txn)
  pub room : size opened.listed < opened.room
  pub here : HasAt txn (Some opened) old new
  pub count : length new ≡ length old + (if is_some (open_at old txn) then 0 else 1)

-- It has the other kind, or would be one too many.
abbrev pub IsBarred : Bool → ℕ → Table → Type 0
IsBarred puts txn old = (is_puts (listed_or puts (open_at old txn)) ≡ not puts) ⊎ ((open_at old txn ≡ None) × (1024 ≤ length old))

abbrev pub Opens : Bool → Bool → ℕ → Table → Table → Type 0
Opens true puts txn old new = IsOpened puts txn old new
Opens false puts txn old new = IsBarred puts txn old

-- the numbers that an open transaction takes
abbrev pub taken_by : Option Open → List ℕ
taken_by None = []
taken_by (Some o) = takes_of o.listed

-- A transaction has ended, and what it takes is held no longer.
pub record IsGivenUp (txn : ℕ) (old new : Indexing) : Type 0 where
  pub ended : HasAt txn None old.table new.table
  pub count : length new.table + 1 ≡ length old.table
  pub ring : new.ring ≡ record old.ring { live = freed (taken_by (open_at old.table txn)) old.ring.live }
  pub slots : new.slots ≡ old.slots
  pub next : new.next ≡ old.next

-- The ring is the same, and so many more events fit.
pub record HasRoom (count : ℕ) (old new : Indexing) : Type 0 where
  pub room : length new.ring.live + count ≤ new.ring.slots
  pub live : new.ring.live ≡ old.ring.live
  pub top : new.ring.top ≡ old.ring.top
  pub slots : new.ring.slots ≡ new.slots
  pub table : new.table ≡ old.table
  pub next : new.next ≡ old.next

-- Events become the last ones of the ring, with the count and the numbers of their commit.
pub record PutsSettle (pointers : List Pointer) (first count : ℕ) (old new : Indexing) : Type 0 where
  pub counted : length pointers ≡ count
  pub first_is : first ≡ old.next.number
  pub fits : first + count ≤ 2 ^ 64 - 1
  pub live : new.ring.live ≡ old.ring.live ++ placed first pointers
  pub top : new.ring.top ≤ new.next.number
  pub slots : new.ring.slots ≡ new.slots
  pub number : new.next.number ≡ first + count
  pub txn : new.next.txn ≡ old.next.txn
  pub table : new.table ≡ old.table

abbrev pub SettlesPuts : Bool → List Pointer → ℕ → ℕ → Indexing → Indexing → Type 0
SettlesPuts true pointers first count old new = PutsSettle pointers first count old new
SettlesPuts false pointers first count old new = length pointers ≡ count → first ≡ old.next.number → first + count ≤ 2 ^ 64 - 1 → ⊥
