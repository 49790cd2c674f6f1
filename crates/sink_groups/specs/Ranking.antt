-- The order in which the members of a group are tried where none is left alone.
use Rattle.std.specs.Prelude.{◌≡◌, ◌<◌, ◌≤◌, ◌⊎◌, ℕ, List, length, slice_index}
use Rattle.std.specs.List.{AllPairs, range_with_len}
use Rattle.std.specs.List.Sorted.{IsPermutation}
use Rattle.sink_groups.specs.declared.rules.GroupKind.{GroupKind}
use Rattle.sink_groups.specs.declared.rules.GroupKind.TheVariants.{Failover}

-- the priority of a member; only failover reads them
abbrev pub priority_of : GroupKind → List ℕ → ℕ → ℕ
priority_of Failover priorities member = slice_index priorities member
priority_of kind priorities member = 0

-- a higher priority goes first, and of equal ones the member that stands first in the list
abbrev pub GoesBefore : (ℕ → ℕ) → ℕ → ℕ → Type 0
GoesBefore priority a b = (priority b < priority a) ⊎ ((priority a ≡ priority b) × (a ≤ b))

-- all members, in this order
pub record IsRanking (kind : GroupKind) (priorities ranking : List ℕ) : Type 0 where
  pub all : IsPermutation (range_with_len 0 (length priorities)) ranking
  pub sorted : AllPairs (GoesBefore (priority_of kind priorities)) ranking
