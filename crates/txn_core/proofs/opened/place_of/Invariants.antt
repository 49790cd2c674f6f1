use Rattle.txn_core.specs.Places.{NoneBefore}
use Rattle.txn_core.proofs.opened.place_of.Given as goal

abbrev pub invariant-loop-place : goal.invariant-loop-place
invariant-loop-place l = NoneBefore l.opened l.number l.place
