use Rattle.txn_core.specs.Places.{NoneBefore}
use Rattle.txn_core.proofs.copies.place_of_copy.Given as goal

abbrev pub invariant-loop-place : goal.invariant-loop-place
invariant-loop-place l = NoneBefore l.copies l.number l.place
