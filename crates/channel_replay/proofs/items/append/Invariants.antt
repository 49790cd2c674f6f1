use Rattle.std.proofs.Common.{◌≡◌, ◌+◌, ◌++◌, length}
use Rattle.event_core.specs.Journal.{numbered}
use Rattle.channel_replay.proofs.items.append.Given as goal

abbrev pub invariant-loop-event : goal.invariant-loop-event
invariant-loop-event l = record {
  items : l.items.items ++ numbered l.number l.batch ≡ l.fn.items.items ++ numbered l.first l.fn.batch;
  numbers : l.number + length l.batch ≡ l.first + length l.fn.batch;
}

abbrev pub decreases-loop-event : goal.decreases-loop-event
decreases-loop-event l = length l.batch
