-- A list of open transactions, as the code keeps it.
use Rattle.std.specs.Prelude.{◌≡◌, ◌<◌, ◌≤◌, ◌+◌, ℕ, List, [], ◌∷◌, ◌++◌, length, take, drop, slice_get, slice_set, Option, Some, None, Bool, true, false, ◌==◌, if◌then◌else◌}
use Rattle.event_core.specs.declared.journal.Entry.{Entry}
use Rattle.channel_face.specs.Machine.{entry_of, without_entry}
use Rattle.channel_replay.specs.Rules.{MayGoOn}

-- the transaction's entry is put in its place, or after the others where it has none
abbrev pub put_entry : ℕ → Entry → List (ℕ × Entry) → List (ℕ × Entry)
put_entry txn entry [] = (txn, entry) ∷ []
put_entry txn entry (o ∷ opened) = if o.0 == txn then (o.0, entry) ∷ opened else o ∷ put_entry txn entry opened

-- The open transaction of this number stands at this place.
pub record IsAt (opened : List (ℕ × Entry)) (txn place : ℕ) (entry : Entry) : Type 0 where
  pub in_range : place < length opened
  pub item : slice_get opened place ≡ Some (txn, entry)
  pub entry_is : entry_of txn opened ≡ Some entry
  pub rest : without_entry txn opened ≡ take place opened ++ drop (place + 1) opened
  pub changed : (e : Entry) → put_entry txn e opened ≡ slice_set opened place (txn, e)

-- no open transaction before this place has this number
abbrev pub NoneBefore : List (ℕ × Entry) → ℕ → ℕ → Type 0
NoneBefore opened txn place = (k : ℕ) (o : ℕ × Entry) → k < place → slice_get opened k ≡ Some o → (o.0 == txn) ≡ false

-- The list has no transaction of this number.
pub record HasNone (opened : List (ℕ × Entry)) (txn : ℕ) : Type 0 where
  pub entry_is : entry_of txn opened ≡ None
  pub rest : without_entry txn opened ≡ opened
  pub added : (e : Entry) → put_entry txn e opened ≡ opened ++ (txn, e) ∷ []

-- a transaction more is open, unless 1,024 are
abbrev pub Begins : Bool → List (ℕ × Entry) → ℕ × Entry → List (ℕ × Entry) → Type 0
Begins true opened begun new = (length opened < 1024) × (new ≡ opened ++ begun ∷ [])
Begins false opened begun new = 1024 ≤ length opened

-- the entry of a transaction goes on, where it may
abbrev pub GoesOn : Bool → List (ℕ × Entry) → ℕ → (Entry → Type 0) → (Option Entry → Entry) → List (ℕ × Entry) → Type 0
GoesOn true opened txn P more new = MayGoOn (length opened) (entry_of txn opened) P × (new ≡ put_entry txn (more (entry_of txn opened)) opened)
GoesOn false opened txn P more new = MayGoOn (length opened) (entry_of txn opened) P → ⊥

-- the numbers of the transactions
abbrev pub keys : List (ℕ × Entry) → List ℕ
keys [] = []
keys (o ∷ opened) = o.0 ∷ keys opened
