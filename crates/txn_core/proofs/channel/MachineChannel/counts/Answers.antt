use Rattle.txn_core.proofs.Steps.{counts_journaled}
use Rattle.txn_core.proofs.channel.MachineChannel.counts.Goals as goal

pub returns : goal.returns
returns c = counts_journaled c.args.self.now c.counts.result c.counts.ensures
