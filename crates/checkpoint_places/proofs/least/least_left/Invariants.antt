use Rattle.std.proofs.Common.{◌-◌, ◌^◌}
use Rattle.event_ring.specs.Slots.{least_above}
use Rattle.checkpoint_places.proofs.Lowest.{LeftSoFar}
use Rattle.checkpoint_places.proofs.least.least_left.Given as goal

abbrev pub invariant-loop-event : goal.invariant-loop-event
invariant-loop-event l = record {
  so_far : LeftSoFar l.least l.most l.ring.live l.after;
}

abbrev pub decreases-loop-event : goal.decreases-loop-event
decreases-loop-event l = 2 ^ 64 - least_above l.after
