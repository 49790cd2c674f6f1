use Rattle.ring_replay.proofs.Dropping.{down_all, down_one}
use Rattle.ring_replay.proofs.indexing.Indexing.drop_open.Goals as goal

pub loop-txn-preserved : goal.loop-txn-preserved
loop-txn-preserved c = down_one c.in-Some.txn c.args.self.now c.loop-txn.self c.give_up.new.self c.in-Some.ensures.1 c.loop-txn.invariant c.give_up.ensures

pub returns-clause-dropped : goal.returns-clause-dropped
returns-clause-dropped c = down_all c.args.self.now c.loop-txn.self (λ txn above. c.in_default.ensures txn tt) c.loop-txn.invariant

pub returns-clause-kept : goal.returns-clause-kept
returns-clause-kept c = (c.requires.0, c.requires.1, _, down_all c.args.self.now c.loop-txn.self (λ txn above. c.in_default.ensures txn tt) c.loop-txn.invariant c.requires.0 c.requires.1 c.requires.2 c.requires.3, c.requires.4)
