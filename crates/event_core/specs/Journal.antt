-- Journals of transactions, and what they leave of a base.
use Rattle.std.specs.Prelude.{◌<◌, ℕ, List, [], ◌∷◌, ◌++◌, ◌+◌, length, map, Contains, Bool, false, ◌==◌, ◌||◌, if◌then◌else◌}
use Rattle.std.specs.List.{AllByRecursion}
use Rattle.std.specs.List.Sorted.{IsStrictlyIncreasing}
use Rattle.event_core.specs.Content.{Content}
pub use Rattle.event_core.specs.declared.journal.Entry.{Entry}
pub use Rattle.event_core.specs.declared.journal.Entry.TheVariants.{Puts, Takes}

-- Numbered events, and the number of the next one.
pub record Base : Type 0 where
  pub items : List (ℕ × Content)
  pub first : ℕ

-- numbers rise, and the next one is above them
pub record IsBase (base : Base) : Type 0 where
  pub rising : IsStrictlyIncreasing (map (λ item. item.0) base.items)
  pub below : AllByRecursion (λ item. item.0 < base.first) base.items

-- a transaction without puts or takes makes no entry
abbrev pub IsNotEmpty : Entry → Type 0
IsNotEmpty (Puts events) = 0 < length events
IsNotEmpty (Takes numbers) = 0 < length numbers

abbrev pub IsJournal : List Entry → Type 0
IsJournal journal = AllByRecursion IsNotEmpty journal

abbrev pub put_events : List Entry → List Content
put_events [] = []
put_events (Puts events ∷ journal) = events ++ put_events journal
put_events (Takes numbers ∷ journal) = put_events journal

abbrev pub taken_numbers : List Entry → List ℕ
taken_numbers [] = []
taken_numbers (Puts events ∷ journal) = taken_numbers journal
taken_numbers (Takes numbers ∷ journal) = numbers ++ taken_numbers journal

-- the events with numbers from this one on
abbrev pub numbered : ℕ → List Content → List (ℕ × Content)
numbered first [] = []
numbered first (event ∷ events) = (first, event) ∷ numbered (first + 1) events

abbrev pub is_among : List ℕ → ℕ → Bool
is_among [] n = false
is_among (x ∷ xs) n = (x == n) || is_among xs n

-- the items without those of these numbers
abbrev pub without : List ℕ → List (ℕ × Content) → List (ℕ × Content)
without numbers [] = []
without numbers (item ∷ items) = if is_among numbers item.0 then without numbers items else item ∷ without numbers items

-- what a journal leaves of a base, in order
abbrev pub left : Base → List Entry → List (ℕ × Content)
left base journal = without (taken_numbers journal) (base.items ++ numbered base.first (put_events journal))

-- the number of the next event after it
abbrev pub next : Base → List Entry → ℕ
next base journal = base.first + length (put_events journal)

-- the base after it
abbrev pub after_journal : Base → List Entry → Base
after_journal base journal = record { items = left base journal; first = next base journal }

-- these numbers are of different items
abbrev pub AreDistinctOf : List (ℕ × Content) → List ℕ → Type 0
AreDistinctOf items [] = Unit {0}
AreDistinctOf items (n ∷ numbers) = ((event : Content) × Contains items (n, event)) × AreDistinctOf (without (n ∷ []) items) numbers

-- each take is of a number that is left, and none is taken twice
abbrev pub IsWellFormed : Base → List Entry → Type 0
IsWellFormed base [] = Unit {0}
IsWellFormed base (Puts events ∷ journal) = IsWellFormed (after_journal base (Puts events ∷ [])) journal
IsWellFormed base (Takes numbers ∷ journal) = AreDistinctOf base.items numbers × IsWellFormed (after_journal base (Takes numbers ∷ [])) journal
