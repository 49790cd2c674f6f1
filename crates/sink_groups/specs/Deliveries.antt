-- Deliveries by a group: its members are handed the batch one after the other, by the scheduler's order.
use Rattle.std.specs.Prelude.{◌≡◌, ◌⊎◌, ◌+◌, ◌-◌, ◌^◌, min, ℕ, List, [], ◌∷◌, ◌++◌, slice_get, slice_set, Some, Result, Ok, Err, true, false}
use Rattle.event_core.specs.Content.{Content}
use Rattle.plug_in.specs.declared.sink.SinkRefused.{SinkRefused}
use Rattle.plug_in.specs.declared.sink.SinkRefused.TheVariants as sink
use Rattle.sink_groups.specs.declared.rules.GroupRefused.{GroupRefused}
use Rattle.sink_groups.specs.declared.rules.GroupRefused.TheVariants.{AllFailed, NoMemory}
use Rattle.sink_groups.specs.Scheduler.{Group, reported, started, order}

-- this member was handed the batch and answered so, and the others stay as they are
pub record Handed {S : Type 0} (delivers : S → List Content → ℕ → Result (Unit {0}) SinkRefused → S → Type 0) (batch : List Content) (now member : ℕ) (answer : Result (Unit {0}) SinkRefused) (old new : List S) : Type 0 where
  pub was : S
  pub is : S
  pub here : slice_get old member ≡ Some was
  pub answered : delivers was batch now answer is
  pub members : new ≡ slice_set old member is

-- these members were handed it, one after the other, and each refused it
abbrev pub AreRefused : {S : Type 0} → (S → List Content → ℕ → Result (Unit {0}) SinkRefused → S → Type 0) → List Content → ℕ → List ℕ → List S → List S → Type 0
AreRefused delivers batch now [] old new = new ≡ old
AreRefused {S} delivers batch now (member ∷ tried) old new = (mid : List S) × Handed delivers batch now member (Err sink.Refused) old mid × AreRefused delivers batch now tried mid new

-- the group after these members failed
abbrev pub all_failed : Group → List ℕ → ℕ → Group
all_failed g [] now = g
all_failed g (member ∷ tried) now = all_failed (reported g member false now) tried now

-- Of the members that are due, those in front of this one refused the batch, and it answered so. Those after it were not tried.
pub record Reaches {S : Type 0} (delivers : S → List Content → ℕ → Result (Unit {0}) SinkRefused → S → Type 0) (batch : List Content) (now : ℕ) (due : List ℕ) (member : ℕ) (answer : Result (Unit {0}) SinkRefused) (front back : List ℕ) (old new : List S) : Type 0 where
  pub split : due ≡ front ++ member ∷ back
  pub mid : List S
  pub before : AreRefused delivers batch now front old mid
  pub last : Handed delivers batch now member answer mid new

-- The members that are due are tried: up to the first that takes the batch; or up to one that finds no memory, which is no failure; or each refused it.
abbrev pub Tries : {S : Type 0} → (S → List Content → ℕ → Result (Unit {0}) SinkRefused → S → Type 0) → List Content → ℕ → Group → List S → Result ℕ SinkRefused → Group → List S → Type 0
Tries delivers batch now g old (Ok member) after new =
    (front back : List ℕ) × Reaches delivers batch now g.due member (Ok tt) front back old new × (after ≡ record (reported (all_failed g front now) member true now) { due = back })
Tries delivers batch now g old (Err sink.NoMemory) after new =
    (member : ℕ) × (front back : List ℕ) × Reaches delivers batch now g.due member (Err sink.NoMemory) front back old new × (after ≡ record (all_failed g front now) { due = back })
Tries delivers batch now g old (Err sink.Refused) after new = AreRefused delivers batch now g.due old new × (after ≡ record (all_failed g g.due now) { due = [] })

-- A delivery. Out of memory for the list of those that were tried comes before anything else.
abbrev pub Delivers : {S : Type 0} → (S → List Content → ℕ → Result (Unit {0}) SinkRefused → S → Type 0) → List Content → ℕ → ℕ → Group → List S → Result ℕ GroupRefused → Group → List S → Type 0
Delivers delivers batch now draw g old (Ok member) after new = Tries delivers batch now (started g now draw) old (Ok member) after new
Delivers delivers batch now draw g old (Err (AllFailed tried)) after new = (tried.items ≡ order g now draw) × Tries delivers batch now (started g now draw) old (Err sink.Refused) after new
Delivers delivers batch now draw g old (Err NoMemory) after new = ((after ≡ g) × (new ≡ old)) ⊎ Tries delivers batch now (started g now draw) old (Err sink.NoMemory) after new

-- the same of a group that is a sink, which counts how often all that were due failed
abbrev pub SinkDelivers : {S : Type 0} → (S → List Content → ℕ → Result (Unit {0}) SinkRefused → S → Type 0) → List Content → ℕ → ℕ → Group → List S → ℕ → Result (Unit {0}) SinkRefused → Group → List S → ℕ → Type 0
SinkDelivers delivers batch now draw g old failed (Ok done) after new more = (member : ℕ) × Tries delivers batch now (started g now draw) old (Ok member) after new × (more ≡ failed)
SinkDelivers delivers batch now draw g old failed (Err sink.NoMemory) after new more = Tries delivers batch now (started g now draw) old (Err sink.NoMemory) after new × (more ≡ failed)
SinkDelivers delivers batch now draw g old failed (Err sink.Refused) after new more = Tries delivers batch now (started g now draw) old (Err sink.Refused) after new × (more ≡ min (failed + 1) (2 ^ 64 - 1))
