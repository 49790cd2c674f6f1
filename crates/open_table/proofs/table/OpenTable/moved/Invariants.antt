use Rattle.std.proofs.Common.{◌≡◌, ◌+◌, ◌-◌, ◌^◌, ℕ, Option, None, Some, length}
use Rattle.std.specs.Option.{option_map}
use Rattle.open_table.specs.Tables.{IsAbove, open_at, moved_open}
use Rattle.open_table.proofs.table.OpenTable.moved.Given as goal

-- how many numbers are above
abbrev pub numbers_above : Option ℕ → ℕ
numbers_above None = 2 ^ 64 + 1
numbers_above (Some after) = 2 ^ 64 - after

abbrev pub invariant-loop-txn : goal.invariant-loop-txn
invariant-loop-txn l =
    ((txn : ℕ) → IsAbove l.after txn → open_at l.self txn ≡ open_at l.fn.self txn)
    × ((txn : ℕ) → (IsAbove l.after txn → ⊥) → open_at l.self txn ≡ option_map (moved_open l.file l.at l.to_file l.to_at) (open_at l.fn.self txn))
    × (length l.self ≡ length l.fn.self)

abbrev pub decreases-loop-txn : goal.decreases-loop-txn
decreases-loop-txn l = numbers_above l.after
