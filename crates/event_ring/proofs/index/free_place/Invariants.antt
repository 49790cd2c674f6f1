use Rattle.std.proofs.Common.{take}
use Rattle.std.specs.List.{AllByRecursion}
use Rattle.event_ring.specs.Slots.{IsBusy}
use Rattle.event_ring.proofs.index.free_place.Given as goal

abbrev pub invariant-loop-place : goal.invariant-loop-place
invariant-loop-place l = AllByRecursion IsBusy (take l.place l.slots.items)
