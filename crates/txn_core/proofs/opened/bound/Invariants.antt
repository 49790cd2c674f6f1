use Rattle.std.proofs.Common.{◌≡◌, ◌≤◌, ◌⊎◌, ℕ, drop, true}
use Rattle.event_core.specs.Journal.{is_among}
use Rattle.txn_core.proofs.opened.bound.Given as goal

abbrev pub invariant-loop-place : goal.invariant-loop-place
invariant-loop-place l = (l.least ≤ l.most) × ((n : ℕ) → is_among l.numbers n ≡ true → (n ≤ l.most) ⊎ (is_among (drop l.place l.numbers) n ≡ true))
