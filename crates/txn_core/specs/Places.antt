-- Where an open transaction stands in its list.
use Rattle.std.specs.Prelude.{◌≡◌, ◌<◌, ◌+◌, ℕ, List, ◌++◌, length, take, drop, slice_get, slice_set, Some, false, ◌==◌}
use Rattle.event_core.specs.declared.journal.Entry.{Entry}
use Rattle.channel_face.specs.Machine.{entry_of, with_entry, without_entry}

-- the open transaction of this number stands at this place
pub record IsAt (opened : List (ℕ × Entry)) (number place : ℕ) (entry : Entry) : Type 0 where
  pub in_range : place < length opened
  pub item : slice_get opened place ≡ Some (number, entry)
  pub entry_is : entry_of number opened ≡ Some entry
  pub rest : without_entry number opened ≡ take place opened ++ drop (place + 1) opened
  pub changed : (e : Entry) → with_entry number e opened ≡ slice_set opened place (number, e)

-- no open transaction before this place has this number
abbrev pub NoneBefore : List (ℕ × Entry) → ℕ → ℕ → Type 0
NoneBefore opened number place = (k : ℕ) (o : ℕ × Entry) → k < place → slice_get opened k ≡ Some o → (o.0 == number) ≡ false
