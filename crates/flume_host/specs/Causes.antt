-- When a fault of the outside may be answered.
use Rattle.std.specs.Prelude.{◌≡◌, ℕ, ◌+◌, ◌-◌, ◌^◌, ◌≤◌, min, Result, OnErr, OnOk}

-- A count rose: it is greater than before, or stands at its last value.
abbrev pub Rose : ℕ → ℕ → Type 0
Rose before now = min (before + 1) (2 ^ 64 - 1) ≤ now

-- The count of faults did not fall: a call that failed raised it, and one that went well left it.
pub record HasCause {T E : Type 0} (before now : ℕ) (result : Result T E) : Type 0 where
  pub later : before ≤ now
  pub failed : OnErr result (Rose before now)
  pub well : OnOk result (now ≡ before)

-- The count of a host after it took an object back: it rose exactly where the object had counted a fault.
pub record Counts (before now own : ℕ) : Type 0 where
  pub later : before ≤ now
  pub clean : own ≡ 0 → now ≡ before
  pub raised : 1 ≤ own → Rose before now

-- A count rose where this is so, and else is as before.
pub record RisesWhere (P : Type 0) (before now : ℕ) : Type 0 where
  pub later : before ≤ now
  pub rose : P → Rose before now
  pub same : (P → ⊥) → now ≡ before
