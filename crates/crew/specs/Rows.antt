-- What became of a row of workers.
use Rattle.std.specs.Prelude.{◌≡◌, ◌<◌, ℕ, List, length, slice_index_or}

-- each worker is still at its place, and ran once
pub record EachRan {W : Type 0} (Ran : W → W → Type 0) (old new : List W) : Type 0 where
  pub as_many : length new ≡ length old
  pub each : (i : ℕ) (d : W) → i < length old → Ran (slice_index_or old i d) (slice_index_or new i d)
