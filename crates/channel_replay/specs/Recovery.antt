-- What the code keeps of the marks that it has applied.
use Rattle.std.specs.Prelude.{◌≡◌, ◌<◌, ◌≤◌, ◌+◌, ◌-◌, ◌^◌, ◌∷◌, ◌++◌, ℕ, List, [], length, Bool, true, false}
use Rattle.std.specs.List.{AllByRecursion}
use Rattle.event_core.specs.Content.{Content}
use Rattle.event_core.specs.Journal.{Base, is_among, left, numbered, taken_numbers, without}
use Rattle.record_form.specs.declared.record.Rec.{Rec}
use Rattle.channel_face.specs.Machine.{entry_of}
use Rattle.channel_replay.specs.declared.recovery.Recovery.{Recovery}
use Rattle.channel_replay.specs.Marks.{Past, Applied, journal, next_txn, next_number, opened, open_txns, numbers_of}
use Rattle.channel_replay.specs.Rules.{IsLegal}
use Rattle.channel_replay.specs.Open.{keys}
use Rattle.channel_replay.specs.Recover.{Line, AreSound, empty_base, past_lines}
use Rattle.channel_replay.specs.declared.recovery.Replayed.{Replayed}

-- What is kept agrees with what the marks lead to.
pub record Agrees (base : Base) (past : Past) (r : Recovery) : Type 0 where
  pub items : r.items.items ≡ left base (journal past)
  pub number : r.number ≡ next_number base past
  pub txn : r.txn ≡ next_txn past
  pub keys_are : keys r.opened.items ≡ open_txns past
  pub each : (t : ℕ) → entry_of t r.opened.items ≡ opened t past
  -- numbers that are left, held or taken are below the next one
  pub left_below : AllByRecursion (λ item. item.0 < r.number) r.items.items
  pub held_below : (t n : ℕ) → r.number ≤ n → is_among (numbers_of (opened t past)) n ≡ false
  pub taken_below : (n : ℕ) → r.number ≤ n → is_among (taken_numbers (journal past)) n ≡ false

-- some marks lead to it
abbrev pub IsReached : Recovery → Type 0
IsReached r = (past : Past) × Agrees empty_base past r

-- a record was applied, where it is legal
abbrev pub Applies : Bool → Base → Past → Rec → Recovery → Type 0
Applies true base past rec new = IsLegal base past rec × Agrees base (Applied rec ∷ past) new
Applies false base past rec new = IsLegal base past rec → ⊥

-- whenever what was kept agreed with some marks, the record was applied to these, where it is legal
abbrev pub AppliesTo : Bool → Recovery → Rec → Recovery → Type 0
AppliesTo legal old rec new = (base : Base) (past : Past) → Agrees base past old → Applies legal base past rec new

-- Events become the last ones of what is left, with the count and the numbers of their commit.
pub record PutsSettle (events : List Content) (first count : ℕ) (old new : Recovery) : Type 0 where
  pub counted : length events ≡ count
  pub first_is : first ≡ old.number
  pub fits : first + count ≤ 2 ^ 64 - 1
  pub items : new.items.items ≡ old.items.items ++ numbered old.number events
  pub number : new.number ≡ old.number + length events
  pub txn : new.txn ≡ old.txn
  pub opened : new.opened.items ≡ old.opened.items

abbrev pub SettlesPuts : Bool → List Content → ℕ → ℕ → Recovery → Recovery → Type 0
SettlesPuts true events first count old new = PutsSettle events first count old new
SettlesPuts false events first count old new = length events ≡ count → first ≡ old.number → first + count ≤ 2 ^ 64 - 1 → ⊥

-- Numbers leave what is left, with the count of their commit.
pub record TakesSettle (numbers : List ℕ) (count : ℕ) (old new : Recovery) : Type 0 where
  pub counted : length numbers ≡ count
  pub items : new.items.items ≡ without numbers old.items.items
  pub number : new.number ≡ old.number
  pub txn : new.txn ≡ old.txn
  pub opened : new.opened.items ≡ old.opened.items

abbrev pub SettlesTakes : Bool → List ℕ → ℕ → Recovery → Recovery → Type 0
SettlesTakes true numbers count old new = TakesSettle numbers count old new
SettlesTakes false numbers count old new = length numbers ≡ count → ⊥

-- Lines without fault lead to this.
pub record IsRecovered (lines : List Line) (r : Replayed) : Type 0 where
  pub sound : AreSound empty_base [] lines
  pub items : r.items.items ≡ left empty_base (journal (past_lines [] lines))
  pub number : r.next.number ≡ next_number empty_base (past_lines [] lines)
  pub txn : r.next.txn ≡ next_txn (past_lines [] lines)
