-- Numbers that come one after the other.
use Rattle.std.specs.Prelude.{◌≡◌, ◌+◌, ℕ, Option}
use Rattle.flume_host.specs.Told.{Tells}

-- this was the first of the numbers that were to come, and those after it are still to come
pub record Next (number : ℕ) (old new : ℕ → ℕ) : Type 0 where
  pub first : old 0 ≡ number
  pub rest : (n : ℕ) → new n ≡ old (n + 1)

-- the number that comes next was given, where it is told
abbrev pub Gives : ℕ → Option (ℕ → ℕ) → Option (ℕ → ℕ) → Type 0
Gives number old new = Tells old new (Next number)
