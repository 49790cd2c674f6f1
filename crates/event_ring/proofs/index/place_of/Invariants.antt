use Rattle.std.proofs.Common.{◌-◌, ◌≡◌, ◌<◌, ◌≤◌, ℕ, length, slice_get, Some}
use Rattle.event_ring.specs.declared.index.Slot.{Slot}
use Rattle.event_ring.proofs.index.place_of.Given as goal

abbrev pub invariant-loop-low : goal.invariant-loop-low
invariant-loop-low l = record {
  ordered : l.low ≤ l.high;
  within : l.high ≤ length l.slots.items;
  below : (k : ℕ) (s : Slot) → k < l.low → slice_get l.slots.items k ≡ Some s → s.number < l.number;
  above : (k : ℕ) (s : Slot) → l.high ≤ k → slice_get l.slots.items k ≡ Some s → l.number ≤ s.number;
}

abbrev pub decreases-loop-low : goal.decreases-loop-low
decreases-loop-low l = l.high - l.low
