-- What the walk over groups finds.
use Rattle.std.specs.Prelude.{ℕ, ◌^◌, ◌<◌, ◌≤◌, List, length, take}
use Rattle.avro_binary.specs.declared.number.Groups.{Groups}
use Rattle.avro_binary.specs.declared.number.Groups.TheVariants.{Whole, Cut, TooLong, TooWide}
use Rattle.avro_binary.specs.Number.{IsGroups, AllGoOn}

-- groups at the front of the bytes
pub record IsFront (most : ℕ) (bytes : List ℕ) (n used : ℕ) : Type 0 where
  pub within : used ≤ length bytes
  pub short : used ≤ most
  pub some : 0 < used
  pub groups : IsGroups (take used bytes) n

abbrev pub GroupsAre : ℕ → List ℕ → Groups → Type 0
GroupsAre most bytes (Whole n used) = IsFront most bytes n used
GroupsAre most bytes Cut = AllGoOn bytes × (length bytes < most)
GroupsAre most bytes TooLong = AllGoOn (take most bytes) × (most ≤ length bytes)
GroupsAre most bytes TooWide = (n : ℕ) × (used : ℕ) × IsFront most bytes n used × (2 ^ 64 ≤ n)
