use Rattle.std.proofs.Common.{◌≡◌, ◌≤◌, ◌+◌, ◌++◌, length}
use Rattle.std.specs.Vec.{vec_capacity}
use Rattle.event_core.specs.Journal.{numbered}
use Rattle.txn_core.specs.Sound.{puts_in, without_puts}
use Rattle.txn_core.proofs.settle.move_events.Given as goal

abbrev pub invariant-loop-event : goal.invariant-loop-event
invariant-loop-event l = record {
  items : l.items.items ++ numbered l.number (puts_in l.from.1) ≡ l.fn.items.items ++ numbered l.first (puts_in l.fn.from.1);
  numbers : l.number + length (puts_in l.from.1) ≡ l.first + length (puts_in l.fn.from.1);
  room : length l.items.items + length (puts_in l.from.1) ≤ vec_capacity l.items;
  grown : vec_capacity l.fn.items ≤ vec_capacity l.items;
  same : l.from.0 ≡ l.fn.from.0;
  takes : without_puts l.from.1 ≡ without_puts l.fn.from.1;
}

abbrev pub decreases-loop-event : goal.decreases-loop-event
decreases-loop-event l = length (puts_in l.from.1)
