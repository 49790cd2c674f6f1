use Rattle.std.proofs.Common.{◌-◌, ◌^◌}
use Rattle.event_ring.specs.Slots.{least_above}
use Rattle.checkpoint_places.proofs.Lowest.{OpenSoFar}
use Rattle.checkpoint_places.proofs.least.least_open.Given as goal

abbrev pub invariant-loop-txn : goal.invariant-loop-txn
invariant-loop-txn l = record {
  so_far : OpenSoFar l.least l.most l.table l.after;
}

abbrev pub decreases-loop-txn : goal.decreases-loop-txn
decreases-loop-txn l = 2 ^ 64 - least_above l.after
