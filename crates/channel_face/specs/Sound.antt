-- What is true of every state that a run of calls leads to: numbers rise, and each event is held once at most.
use Rattle.std.specs.Prelude.{◌<◌, ◌≤◌, ◌+◌, ◌==◌, [], ◌∷◌, ℕ, List, Bool, if◌then◌else◌}
use Rattle.std.specs.List.{AllByRecursion}
use Rattle.event_core.specs.Content.{Content}
use Rattle.event_core.specs.Journal.{IsJournal, taken_numbers}
use Rattle.event_core.specs.declared.journal.Entry.{Entry}
use Rattle.channel_face.specs.Machine.{State, entries}

-- events by their numbers
abbrev pub Items : Type 0
Items = List (ℕ × Content)

-- open transactions by their numbers
abbrev pub Opened : Type 0
Opened = List (ℕ × Entry)

-- one where it is so, else zero
abbrev pub one_if : Bool → ℕ
one_if b = if b then 1 else 0

-- how often a number stands there
abbrev pub times : ℕ → List ℕ → ℕ
times n [] = 0
times n (x ∷ xs) = one_if (x == n) + times n xs

-- how many items have a number
abbrev pub number_of : ℕ → Items → ℕ
number_of n [] = 0
number_of n (item ∷ items) = one_if (item.0 == n) + number_of n items

-- numbers rise, the least is not below the first number, and all are below the second
abbrev pub Rising : ℕ → Items → ℕ → Type 0
Rising low [] first = low ≤ first
Rising low (item ∷ items) first = (low ≤ item.0) × Rising (item.0 + 1) items first

-- how often an entry takes a number
abbrev pub entry_times : ℕ → Entry → ℕ
entry_times n entry = times n (taken_numbers (entry ∷ []))

-- how often open transactions hold a number
abbrev pub opened_times : ℕ → Opened → ℕ
opened_times n opened = times n (taken_numbers (entries opened))

-- how often what is staged holds a number
abbrev pub staged_times : ℕ → State → ℕ
staged_times n s = times n (taken_numbers s.staged)

-- the numbers of open transactions are below this one
abbrev pub AreNumbered : ℕ → Opened → Type 0
AreNumbered txn opened = AllByRecursion (λ (o : ℕ × Entry). o.0 < txn) opened

pub record IsSoundState (s : State) : Type 0 where
  -- numbers rise
  pub rising : Rising 0 s.items s.first
  -- each number that is held is that of an item, and no two hold it
  pub held : (n : ℕ) → opened_times n s.opened + staged_times n s ≤ number_of n s.items
  -- open transactions have earlier numbers
  pub numbered : AreNumbered s.txn s.opened
  -- nothing empty is staged
  pub staged : IsJournal s.staged
