use Rattle.channel_face.specs.Machine.{Flush}
use Rattle.txn_core.proofs.Steps.{adds_journaled}
use Rattle.txn_core.proofs.channel.MachineChannel.flush.Goals as goal

pub returns-clause-step : goal.returns-clause-step
returns-clause-step c = adds_journaled c.args.self.now (Flush c.flush.result) c.flush.new.self c.flush.ensures.step
