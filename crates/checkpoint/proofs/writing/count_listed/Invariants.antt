use Rattle.std.proofs.Common.{◌-◌, ◌^◌}
use Rattle.event_ring.specs.Slots.{least_above}
use Rattle.checkpoint.proofs.Listing.{CountsSoFar}
use Rattle.checkpoint.proofs.writing.count_listed.Given as goal

abbrev pub invariant-loop-txn : goal.invariant-loop-txn
invariant-loop-txn g l = record {
  counted : CountsSoFar (g.I.Item.listed l.table) l.count l.after;
}

abbrev pub decreases-loop-txn : goal.decreases-loop-txn
decreases-loop-txn g l = 2 ^ 64 - least_above l.after
