use Rattle.std.proofs.Common.{length}
use Rattle.channel_places.proofs.settling.end_all.Given as goal

abbrev pub invariant-loop-txn : goal.invariant-loop-txn
invariant-loop-txn l = Unit {0}

abbrev pub decreases-loop-txn : goal.decreases-loop-txn
decreases-loop-txn l = length l.table
