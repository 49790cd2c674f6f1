use Rattle.std.proofs.Common.{◌≡◌, ◌≤◌, ◌⊎◌, ℕ, drop, true}
use Rattle.event_core.specs.Journal.{is_among, taken_numbers}
use Rattle.channel_face.specs.Machine.{entries}
use Rattle.txn_core.proofs.opened.taken_bound.Given as goal

abbrev pub invariant-loop-place : goal.invariant-loop-place
invariant-loop-place l = (n : ℕ) → is_among (taken_numbers (entries l.staged)) n ≡ true → (n ≤ l.most) ⊎ (is_among (taken_numbers (entries (drop l.place l.staged))) n ≡ true)
