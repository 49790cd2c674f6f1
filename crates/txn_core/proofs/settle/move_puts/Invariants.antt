use Rattle.std.proofs.Common.{◌≡◌, ◌≤◌, ◌+◌, ◌++◌, length, drop}
use Rattle.std.specs.Vec.{vec_capacity}
use Rattle.event_core.specs.Journal.{numbered, put_events, taken_numbers}
use Rattle.channel_face.specs.Machine.{entries}
use Rattle.txn_core.proofs.settle.move_puts.Given as goal

abbrev pub invariant-loop-place : goal.invariant-loop-place
invariant-loop-place l = record {
  items : l.items.items ++ numbered l.number (put_events (entries (drop l.place l.staged.items))) ≡ l.fn.items.items ++ numbered l.first (put_events (entries l.fn.staged.items));
  numbers : l.number + length (put_events (entries (drop l.place l.staged.items))) ≡ l.first + length (put_events (entries l.fn.staged.items));
  room : length l.items.items + length (put_events (entries (drop l.place l.staged.items))) ≤ vec_capacity l.items;
  grown : vec_capacity l.fn.items ≤ vec_capacity l.items;
  takes : taken_numbers (entries l.staged.items) ≡ taken_numbers (entries l.fn.staged.items);
  same : vec_capacity l.staged ≡ vec_capacity l.fn.staged;
  long : length l.staged.items ≡ length l.fn.staged.items;
}
