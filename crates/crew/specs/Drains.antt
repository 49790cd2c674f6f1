-- An input that was read and dropped.
use Rattle.std.specs.Prelude.{◌≡◌, ◌<◌, ◌^◌, ℕ, List, length, Option, Some}
use Rattle.std.specs.Io.KnownBytes.{Consumes, IsAtEnd}
use Rattle.flume_host.specs.Causes.{Rose}
use Rattle.crew.specs.declared.draining.DrainEnd.{DrainEnd}
use Rattle.crew.specs.declared.draining.DrainEnd.TheVariants.{End, Full, ReadFault}
use Rattle.crew.specs.declared.draining.DrainWorker.{DrainWorker}

-- by how many bytes were read, and what is left
abbrev pub EndsAt : DrainEnd → ℕ → Option (List ℕ) → Type 0
EndsAt End size left = (size < 2 ^ 40) × IsAtEnd left
EndsAt Full size left = size ≡ 2 ^ 40
EndsAt ReadFault size left = size < 2 ^ 40

-- by the count of faults before and after
abbrev pub HasCauseOf : DrainEnd → ℕ → ℕ → Type 0
HasCauseOf End before now = now ≡ before
HasCauseOf Full before now = now ≡ before
HasCauseOf ReadFault before now = Rose before now

-- some bytes were read, and the reading ended so
pub record Drained (end : DrainEnd) (old new : Option (List ℕ)) (before now : ℕ) : Type 0 where
  pub bytes : List ℕ
  pub read : Consumes old new bytes
  pub ends : EndsAt end (length bytes) new
  pub cause : HasCauseOf end before now

-- the worker read its input, and noted how that ended
pub record DrainRan {S : Type 0} (left : S → Option (List ℕ)) (faults : S → ℕ) (old new : DrainWorker S) : Type 0 where
  pub end : DrainEnd
  pub noted : new.end ≡ Some end
  pub drained : Drained end (left old.input) (left new.input) (faults old.input) (faults new.input)
