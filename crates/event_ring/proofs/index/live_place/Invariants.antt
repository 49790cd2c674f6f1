use Rattle.event_ring.specs.Slots.{AreGaps}
use Rattle.event_ring.proofs.index.live_place.Given as goal

abbrev pub invariant-loop-place : goal.invariant-loop-place
invariant-loop-place l = AreGaps l.from l.place l.slots.items
