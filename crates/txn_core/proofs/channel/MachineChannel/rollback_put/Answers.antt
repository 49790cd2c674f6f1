use Rattle.channel_face.specs.Machine.{RollbackPut}
use Rattle.txn_core.proofs.Steps.{adds_journaled}
use Rattle.txn_core.proofs.channel.MachineChannel.rollback_put.Goals as goal

pub returns : goal.returns
returns c = adds_journaled c.args.self.now (RollbackPut c.args.txn c.rollback_put.result) c.rollback_put.new.self c.rollback_put.ensures
