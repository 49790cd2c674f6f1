use Rattle.shared_channel.proofs.Sparing.{takes_back}
use Rattle.shared_channel.proofs.shared.OfTakesKindOfTxn.roll_back.Goals as goal

pub returns-clause-counts : goal.returns-clause-counts
returns-clause-counts g c = takes_back c.args.txn
