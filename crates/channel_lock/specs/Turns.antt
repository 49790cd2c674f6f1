-- The rule of the table, and what each step tells.
-- Word 0 is the length of the history. Word 1 is 0 while the lock is free, 1 while a seat has it, and 2 once the table is closed. The slot has the value while word 1 is 0.
use Rattle.std.specs.Prelude.{◌≡◌, ◌==◌, ◌<◌, ◌≤◌, ◌++◌, ℕ, List, [], ◌∷◌, true, length, Option, Some, None, MatchBool}
use mathlib.Core.List.{IsPrefix}
use mathlib.Core.Option.{some}
use lib.ListN.{get_elem?}
use Rattle.atomic_table.specs.Table.{State, Me, Step as TableStep, rest}
use Rattle.channel_face.specs.History.{Opening, Step}
use Rattle.channel_lock.specs.Calls.{has, AreApart, calls_by, Below}
use Rattle.channel_lock.specs.Views.{Part, View, entered, with_call, idle, joined, saw}

-- The part begins the history, which has no further call of its numbers, and the view has these numbers.
pub record Heard (log : List Step) (base : Opening) (passes : ℕ) (numbers : List ℕ) (p : Part) : Type 0 where
  pub same : p.live ≡ true → (p.base ≡ base) × (p.passes ≡ passes)
  pub begins : IsPrefix p.seen log
  pub calls : calls_by p.numbers log ≡ calls_by p.numbers p.seen
  pub among : (n : ℕ) → has p.numbers n ≡ true → has numbers n ≡ true

-- What the rule says of the view of one seat, where the history is log, word 1 is turn, and the numbers below dealt were drawn.
pub record Fits (log : List Step) (base : Opening) (passes turn holder dealt seat : ℕ) (v : View) : Type 0 where
  pub same : v.live ≡ true → (v.base ≡ base) × (v.passes ≡ passes)
  pub begins : IsPrefix v.seen log
  pub one : Heard log base passes v.numbers v.one
  pub other : Heard log base passes v.numbers v.other
  pub parts : AreApart v.one.numbers v.other.numbers
  -- the calls of its numbers were all seen
  pub calls : calls_by v.numbers log ≡ calls_by v.numbers v.seen
  -- with the lock, it is the one that has it, and has seen all of the history
  pub holds : v.turn ≡ true → (seat ≡ holder) × (turn ≡ 1) × (v.seen ≡ log)
  pub first : v.deals ≡ true → (seat ≡ 0) × (v.dealt ≡ dealt)
  pub drawn : (n : ℕ) → has v.numbers n ≡ true → n < dealt

-- a number is with one seat at most
abbrev pub Apart : List View → Type 0
Apart views = (i j : ℕ) (v w : View) → get_elem? views i ≡ some v → get_elem? views j ≡ some w → (n : ℕ) → has v.numbers n ≡ true → has w.numbers n ≡ true → i ≡ j

-- a seat holds the lock
abbrev pub Held : List View → Type 0
Held views = (j : ℕ) × (v : View) × (get_elem? views j ≡ some v) × (v.turn ≡ true)

-- The rule: there is one history, which the views have seen parts of, and while the lock is free the value at home stands for it. The lock is free, or a seat has it, or it was shut with the slot empty.
pub record Kept {C : Type 0} (stands : C → Opening → List Step → Type 0) (base : Opening) (passes : ℕ) (s : State (Option C) View) : Type 0 where
  pub log : List Step
  pub turn : ℕ
  pub holder : ℕ
  pub dealt : ℕ
  pub words : s.words ≡ length log ∷ turn ∷ []
  pub at_most_two : turn ≤ 2
  pub home : turn ≡ 0 → (c : C) × (get_elem? s.homes 0 ≡ some (some (Some c))) × stands c base log
  pub held : turn ≡ 1 → Held s.views
  pub shut : turn ≡ 2 → get_elem? s.homes 0 ≡ some (some None)
  pub below : Below dealt log
  pub room : dealt ≤ passes
  pub fits : (j : ℕ) (v : View) → get_elem? s.views j ≡ some v → Fits log base passes turn holder dealt j v
  pub apart : Apart s.views

-- the history begins with the part, and has no further call of its numbers
abbrev pub Has : List Step → Part → Type 0
Has log p = IsPrefix p.seen log × (calls_by p.numbers log ≡ calls_by p.numbers p.seen)

-- the part was known of the history and the passes that the view is of
abbrev pub IsOf : View → Part → Type 0
IsOf v p = p.live ≡ true → (p.base ≡ v.base) × (p.passes ≡ v.passes)

module _ {C : Type 0} (stands : C → Opening → List Step → Type 0) where
  -- with the lock, all of the history was seen, the value stands for it, and it has no further call of one's own
  abbrev pub Knows : View → C → View → Type 0
  Knows v c w = (w ≡ entered v w.seen) × stands c v.base w.seen × IsPrefix v.seen w.seen × (calls_by v.numbers w.seen ≡ calls_by v.numbers v.seen) × Below v.passes w.seen

  -- take the lock: it was free, and was taken with the value; or nothing changed
  abbrev pub Takes : TableStep (Option C) → Me (Option C) View → ℕ → Me (Option C) View → Type 0
  Takes s m n w = MatchBool (n == 0) ((c : C) × (w.1 ≡ (0, Some c) ∷ m.1) × Knows m.0 c w.0) (w ≡ m)

module _ {C : Type 0} where
  -- read the count: it is the length of the history
  abbrev pub Reads : TableStep (Option C) → Me (Option C) View → ℕ → Me (Option C) View → Type 0
  Reads s m n w = (w ≡ m) × (n ≡ length m.0.seen)

  -- count a call: it is the last of the history
  abbrev pub Counts : Step → TableStep (Option C) → Me (Option C) View → ℕ → Me (Option C) View → Type 0
  Counts e s m n w = (w ≡ (with_call e m.0, m.1)) × Below m.0.passes (m.0.seen ++ e ∷ [])

  -- count a call of which P is true
  abbrev pub CountsOne : (Step → Type 0) → TableStep (Option C) → Me (Option C) View → ℕ → Me (Option C) View → Type 0
  CountsOne P s m n w = (e : Step) × P e × Counts e s m n w

  -- release the lock, with what is in the slot
  abbrev pub Leaves : TableStep (Option C) → Me (Option C) View → ℕ → Me (Option C) View → Type 0
  Leaves s m n w = w ≡ (idle m.0, rest m.1)

  -- look after a join: both had seen beginnings of the history that is seen now, which has no further call of either; both were of one table; no number was with both, and each is one of a pass
  abbrev pub LooksJoined : TableStep (Option C) → Me (Option C) View → ℕ → Me (Option C) View → Type 0
  LooksJoined s m n w = (w ≡ (joined m.0, m.1)) × Has m.0.seen m.0.one × Has m.0.seen m.0.other × IsOf m.0 m.0.other × AreApart m.0.one.numbers m.0.other.numbers × ((n : ℕ) → has m.0.numbers n ≡ true → n < m.0.passes)

-- A seat with the lock, and the calls that it made under it: what it sees begins with what it saw, ends with these calls, which are its own, and has no other further call of its own.
abbrev pub Making : View → List Step → View → Type 0
Making v es w =
    (between : List Step) × (w ≡ entered v w.seen) × (w.seen ≡ (v.seen ++ between) ++ es) × (calls_by v.numbers w.seen ≡ calls_by v.numbers v.seen ++ es) × Below v.passes w.seen × (calls_by v.numbers es ≡ es)

-- The same once the lock was released.
abbrev pub MadeInTurn : View → List Step → View → Type 0
MadeInTurn v es w =
    (between : List Step) × (w ≡ saw v w.seen) × (w.seen ≡ (v.seen ++ between) ++ es) × (calls_by v.numbers w.seen ≡ calls_by v.numbers v.seen ++ es) × Below v.passes w.seen × (calls_by v.numbers es ≡ es)

-- it has the number of each pass
abbrev pub HasAll : View → Type 0
HasAll v = (n : ℕ) → n < v.passes → has v.numbers n ≡ true
