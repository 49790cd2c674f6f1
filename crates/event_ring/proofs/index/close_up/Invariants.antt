use Rattle.std.proofs.Common.{◌≡◌, ◌≤◌, length, take, drop}
use Rattle.event_ring.specs.Slots.{closed}
use Rattle.event_ring.proofs.index.close_up.Given as goal

abbrev pub invariant-loop-place : goal.invariant-loop-place
invariant-loop-place l = record {
  long : length l.slots.items ≡ length l.fn.slots.items;
  room : l.slots.capacity ≡ l.fn.slots.capacity;
  behind : l.to ≤ l.place;
  front : take l.to l.slots.items ≡ closed (take l.place l.fn.slots.items);
  rest : drop l.place l.slots.items ≡ drop l.place l.fn.slots.items;
}
