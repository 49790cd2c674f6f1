use Rattle.std.proofs.Common.{◌≡◌, ◌≤◌, length}
use Rattle.channel_tests.proofs.checkpoints.events.Given as goal

abbrev pub invariant-loop-number : goal.invariant-loop-number
invariant-loop-number l = record {
  top : l.ring.top ≤ l.number;
  many : length l.ring.live ≡ l.number;
  slots : l.ring.slots ≡ l.fn.count;
}
