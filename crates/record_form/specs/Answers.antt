-- What a step of a reader answers, against what reading gives.
use Rattle.std.specs.Prelude.{◌≡◌, ◌≢◌, ◌<◌, ◌≤◌, ℕ, ◌+◌, List, length, take, drop, Result, Ok, Err}
use Rattle.record_form.specs.Grammar.{Outcome, Incomplete, Fault, u32_of}
use Rattle.record_form.specs.declared.fields.Stop.{Stop}
use Rattle.record_form.specs.declared.fields.Stop.TheVariants as stops

-- the outcome at which a reader stops
abbrev pub stopped : Stop → Outcome
stopped stops.Part = Incomplete
stopped (stops.Bad at) = Fault at

-- a reader answers a value of which P holds, or stops as reading does
abbrev pub Answers : {X : Type 0} → Result X Stop → Outcome → (X → Type 0) → Type 0
Answers (Ok x) outcome P = P x
Answers (Err stop) outcome P = outcome ≡ stopped stop

-- so many bytes from the place on, where they are there
abbrev pub Takes : {X : Type 0} → Result X Stop → List ℕ → ℕ → ℕ → (X → Type 0) → Type 0
Takes (Ok x) bytes at width P = (at + width ≤ length bytes) × P x
Takes (Err stop) bytes at width P = (length bytes < at + width) × (stop ≡ stops.Part)

-- a count at the place, which is at least 1
abbrev pub CountsAt : Result ℕ Stop → List ℕ → ℕ → Type 0
CountsAt (Ok end) bytes at = (at + 4 ≤ length bytes) × (u32_of (take 4 (drop at bytes)) ≢ 0) × (end ≡ at + 4)
CountsAt (Err stops.Part) bytes at = length bytes < at + 4
CountsAt (Err (stops.Bad fault)) bytes at = (at + 4 ≤ length bytes) × (u32_of (take 4 (drop at bytes)) ≡ 0) × (fault ≡ at)
