use Rattle.channel_face.specs.Machine.{Put}
use Rattle.txn_core.proofs.Steps.{adds_journaled}
use Rattle.txn_core.proofs.channel.MachineChannel.put.Goals as goal

pub returns-clause-step : goal.returns-clause-step
returns-clause-step c = adds_journaled c.args.self.now (Put c.args.txn.now c.args.event.now c.put.result) c.put.new.self c.put.ensures.step
