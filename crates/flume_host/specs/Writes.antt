-- Bytes that were written to a sink, or a front of them.
use Rattle.std.specs.Prelude.{◌≤◌, ◌⊎◌, ℕ, List, length, take, Option}
use Rattle.std.specs.Io.KnownBytes.{Appends}
use Rattle.flume_host.specs.Causes.{Rose}

-- a front of the bytes was written
abbrev pub WritesFront : Option (List ℕ) → Option (List ℕ) → List ℕ → Type 0
WritesFront old new bytes = (count : ℕ) × Appends old new (take count bytes)

-- a front of the bytes was written: all of them, unless the count of faults rose
pub record Fronts (old new : Option (List ℕ)) (before now : ℕ) (bytes : List ℕ) : Type 0 where
  pub sent : ℕ
  pub wrote : Appends old new (take sent bytes)
  pub whole : (length bytes ≤ sent) ⊎ Rose before now
