use Rattle.std.proofs.Common.{◌≡◌, drop, fold, min}
use Rattle.grouped_sinks.specs.Rows.{batch_at}
use Rattle.grouped_sinks.proofs.row.least_batch.Given as goal

-- the least so far, and those that are left, give the least of all
abbrev pub invariant-loop-place : goal.invariant-loop-place
invariant-loop-place l =
    fold (λ least place. min least (batch_at l.sinks place)) l.least (drop l.place-index l.others) ≡ fold (λ least place. min least (batch_at l.sinks place)) (batch_at l.sinks l.first) l.others
