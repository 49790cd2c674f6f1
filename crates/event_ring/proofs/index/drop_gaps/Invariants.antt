use Rattle.std.proofs.Common.{◌≡◌, drop}
use Rattle.event_ring.specs.Slots.{live_of}
use Rattle.event_ring.proofs.index.drop_gaps.Given as goal

abbrev pub invariant-loop-dropped : goal.invariant-loop-dropped
invariant-loop-dropped l = record {
  rest : l.slots.items ≡ drop l.dropped l.fn.slots.items;
  room : l.slots.capacity ≡ l.fn.slots.capacity;
  live : live_of l.slots.items ≡ live_of l.fn.slots.items;
}
