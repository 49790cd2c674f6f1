use Rattle.shared_channel.proofs.Sparing.{puts_back}
use Rattle.shared_channel.proofs.shared.OfPutsKindOfTxn.roll_back.Goals as goal

pub returns-clause-counts : goal.returns-clause-counts
returns-clause-counts g c = puts_back c.args.txn
