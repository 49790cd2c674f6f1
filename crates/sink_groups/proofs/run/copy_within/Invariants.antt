use Rattle.std.proofs.Common.{◌≡◌, ◌++◌, take, vec_capacity}
use Rattle.sink_groups.proofs.run.copy_within.Given as goal

abbrev pub invariant-loop-number : goal.invariant-loop-number
invariant-loop-number l = (l.to.items ≡ l.initial.to.items ++ take l.number-index l.from) × (vec_capacity l.to ≡ vec_capacity l.initial.to)
