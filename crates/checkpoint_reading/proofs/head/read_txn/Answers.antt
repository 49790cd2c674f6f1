use Rattle.std.proofs.Common.{inr, refl, arith}
use Rattle.flume_host.specs.Folder.{Files}
use Rattle.checkpoint_reading.specs.Fields.{Outcome, TxnGives}
use Rattle.checkpoint_reading.proofs.Stepping.{faults_here, other_u64, short_u64, when_none, when_some}
use Rattle.checkpoint_reading.proofs.head.read_txn.Goals as goal

pub returns-in_default-clause-bad : goal.returns-in_default-clause-bad
returns-in_default-clause-bad g c =
    faults_here _ c.args.reader.now (λ (files : Files) (o : Outcome). TxnGives files o c.args.place c.args.number) _ _ c.number-file.ensures c.at-at.ensures.at c.at-at.ensures.within
    (λ t is. inr (λ a more there right. short_u64 _ (when_none _ _ _ c.in_default.not-Some c.in_ok-txn.ensures.taken t is) a more there, refl))

pub returns-then-txn-eq0-clause-bad : goal.returns-then-txn-eq0-clause-bad
returns-then-txn-eq0-clause-bad g c =
    faults_here _ c.args.reader.now (λ (files : Files) (o : Outcome). TxnGives files o c.args.place c.args.number) _ _ c.number-file.ensures c.at-at.ensures.at c.at-at.ensures.within
    (λ t is. inr (other_u64 _ _ _ c.in-Some.txn (omega arith) (when_some _ _ _ _ c.in-Some.is c.in_ok-txn.ensures.taken t is) (λ a right. right.1) (λ right. omega (arith, right.0, c.if-txn-eq0.true)), refl))
