-- Rolled files over a whole list of deliveries.
use Rattle.std.specs.Prelude.{◌≡◌, ◌⊎◌, ℕ, List, [], ◌∷◌, ◌++◌, map, slice_get, Option, Some, None, Result, Ok, Err}
use Rattle.std.specs.List.{flat_map, AllByRecursion}
use Rattle.event_core.specs.Content.{Content}
use Rattle.flume_host.specs.Rolled.{Rolled, RollFile}
use Rattle.flume_host.specs.Told.{Tells}
use Rattle.roll_sink.specs.declared.sink.RollRefused.{RollRefused}
use Rattle.roll_sink.specs.declared.sink.RollRefused.TheVariants.{RollFault}
use Rattle.roll_sink.specs.Rolls.{RollState, Rolls, roll_text}

-- A batch that was handed to the sink, the moment, and the sink's answer.
pub record Delivery : Type 0 where
  pub batch : List Content
  pub moment : ℕ
  pub answer : Result (Unit {0}) RollRefused

-- deliveries one after another
abbrev pub AllRoll : List Delivery → RollState → RollState → Option Rolled → Option Rolled → Type 0
AllRoll [] s t old new = (t ≡ s) × (new ≡ old)
AllRoll (d ∷ done) s t old new =
    (next : RollState) × (told : Option Rolled) × Rolls s d.batch d.moment d.answer next old told × AllRoll done next t told new

-- what a sink with this interval keeps before its first delivery
abbrev pub new_sink : ℕ → RollState
new_sink interval = record { interval = interval; start = None; next = 1; begun = None }

-- the batch, if it was answered Ok
abbrev pub if_ok : Result (Unit {0}) RollRefused → List Content → List (List Content)
if_ok (Ok done) batch = batch ∷ []
if_ok (Err refused) batch = []

-- the batches that were answered Ok
abbrev pub delivered : List Delivery → List (List Content)
delivered [] = []
delivered (d ∷ done) = if_ok d.answer d.batch ++ delivered done

-- A file: whole batches, and these bytes after them.
pub record Filled : Type 0 where
  pub name : List ℕ
  pub batches : List (List Content)
  pub front : List ℕ

abbrev pub file_of : Filled → RollFile
file_of f = record { name = f.name; bytes = flat_map roll_text f.batches ++ f.front }

-- nothing, or a front of the text of a batch that was refused for a fault
abbrev pub IsFrontOf : List Delivery → List ℕ → Type 0
IsFrontOf done front =
    (front ≡ [])
    ⊎ ((place : ℕ) × (d : Delivery) × (rest : List ℕ) × (slice_get done place ≡ Some d) × (d.answer ≡ Err RollFault)
    × (roll_text d.batch ≡ front ++ rest))

-- These files were begun after those that were there. Their batches are those that were answered Ok, each whole in one
-- file, once and in order; and after its batches a file has nothing, or a front of one that was refused.
pub record Fills (done : List Delivery) (filled : List Filled) (old new : List RollFile) : Type 0 where
  pub files : new ≡ old ++ map file_of filled
  pub batches : flat_map (λ (f : Filled). f.batches) filled ≡ delivered done
  pub fronts : AllByRecursion (λ (f : Filled). IsFrontOf done f.front) filled

-- Over any list of deliveries of a new sink its folder is filled so.
abbrev pub RunsFill : Type 0
RunsFill =
    (interval : ℕ) (done : List Delivery) (t : RollState) (old new : Option Rolled) → AllRoll done (new_sink interval) t old new
    → Tells old new (λ r s. (filled : List Filled) × Fills done filled r.files s.files)
