use Rattle.std.proofs.Common.{length}
use Rattle.ring_replay.proofs.Dropping.{GoesDown}
use Rattle.ring_replay.proofs.indexing.Indexing.drop_open.Given as goal

abbrev pub invariant-loop-txn : goal.invariant-loop-txn
invariant-loop-txn l = GoesDown l.fn.self l.self

abbrev pub decreases-loop-txn : goal.decreases-loop-txn
decreases-loop-txn l = length l.self.table
