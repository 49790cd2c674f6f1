-- The marks of a log, and what its transactions have open after them.
use Rattle.std.specs.Prelude.{◌≡◌, ◌+◌, ℕ, List, [], ◌∷◌, ◌++◌, max, true, ◌==◌, if◌then◌else◌, Option, Some, None, map}
use Rattle.event_core.specs.Content.{Content}
use Rattle.event_core.specs.Journal.{Base, is_among, left, next}
use Rattle.event_core.specs.declared.journal.Entry.{Entry}
use Rattle.event_core.specs.declared.journal.Entry.TheVariants.{Puts, Takes}
use Rattle.record_form.specs.declared.record.Rec.{Rec}
use Rattle.record_form.specs.declared.record.Rec.TheVariants.{Put, Take, Rollback, CommitPut, CommitTake, End}

-- A mark of a log: a file begins, by which all that is open is dropped, or a record.
pub data Mark : Type 0 where
  Dropped : Mark
  Applied : Rec → Mark

-- the marks up to some place, the last one first
abbrev pub Past : Type 0
Past = List Mark

-- the number of the record's transaction
abbrev pub txn_of : Rec → ℕ
txn_of (Put txn event) = txn
txn_of (Take txn number) = txn
txn_of (Rollback txn) = txn
txn_of (CommitPut txn first count) = txn
txn_of (CommitTake txn count) = txn
txn_of (End count) = 0

abbrev pub events_of : Option Entry → List Content
events_of None = []
events_of (Some (Puts events)) = events
events_of (Some (Takes numbers)) = []

abbrev pub numbers_of : Option Entry → List ℕ
numbers_of None = []
numbers_of (Some (Puts events)) = []
numbers_of (Some (Takes numbers)) = numbers

-- what a transaction has open after a record of its own: a put or take is added, a rollback or commit ends it
abbrev pub opened_by : Rec → Option Entry → Option Entry
opened_by (Put txn event) entry = Some (Puts (events_of entry ++ event ∷ []))
opened_by (Take txn number) entry = Some (Takes (numbers_of entry ++ number ∷ []))
opened_by (Rollback txn) entry = None
opened_by (CommitPut txn first count) entry = None
opened_by (CommitTake txn count) entry = None
opened_by (End count) entry = entry

-- what a transaction has open: its puts or takes since it last ended or was dropped
abbrev pub opened : ℕ → Past → Option Entry
opened txn [] = None
opened txn (Dropped ∷ past) = None
opened txn (Applied rec ∷ past) = if txn_of rec == txn then opened_by rec (opened txn past) else opened txn past

abbrev pub removed : ℕ → List ℕ → List ℕ
removed txn [] = []
removed txn (t ∷ txns) = if t == txn then removed txn txns else t ∷ removed txn txns

abbrev pub added : ℕ → List ℕ → List ℕ
added txn txns = if is_among txns txn then txns else txns ++ txn ∷ []

-- the open transactions after a record
abbrev pub open_by : Rec → List ℕ → List ℕ
open_by (Put txn event) txns = added txn txns
open_by (Take txn number) txns = added txn txns
open_by (Rollback txn) txns = removed txn txns
open_by (CommitPut txn first count) txns = removed txn txns
open_by (CommitTake txn count) txns = removed txn txns
open_by (End count) txns = txns

-- the open transactions, in the order in which they began
abbrev pub open_txns : Past → List ℕ
open_txns [] = []
open_txns (Dropped ∷ past) = []
open_txns (Applied rec ∷ past) = open_by rec (open_txns past)

abbrev pub entries_of : Option Entry → List Entry
entries_of None = []
entries_of (Some entry) = entry ∷ []

-- what a record commits: the open puts or takes of its transaction
abbrev pub committed : Rec → Past → List Entry
committed (Put txn event) past = []
committed (Take txn number) past = []
committed (Rollback txn) past = []
committed (CommitPut txn first count) past = entries_of (opened txn past)
committed (CommitTake txn count) past = entries_of (opened txn past)
committed (End count) past = []

-- the committed entries, in order
abbrev pub journal : Past → List Entry
journal [] = []
journal (Dropped ∷ past) = journal past
journal (Applied rec ∷ past) = journal past ++ committed rec past

-- the number of the next transaction: 1, and one above each that a record names
abbrev pub next_txn : Past → ℕ
next_txn [] = 1
next_txn (Dropped ∷ past) = next_txn past
next_txn (Applied rec ∷ past) = max (txn_of rec + 1) (next_txn past)

-- the number is one of the events that are left of a base
abbrev pub IsLeft : Base → Past → ℕ → Type 0
IsLeft base past number = is_among (map (λ item. item.0) (left base (journal past))) number ≡ true

-- some transaction has it among its open takes
abbrev pub IsHeld : Past → ℕ → Type 0
IsHeld past number = (txn : ℕ) × (is_among (numbers_of (opened txn past)) number ≡ true)

-- the number of the next event
abbrev pub next_number : Base → Past → ℕ
next_number base past = next base (journal past)
