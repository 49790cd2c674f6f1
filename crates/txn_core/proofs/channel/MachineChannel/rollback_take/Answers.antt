use Rattle.channel_face.specs.Machine.{RollbackTake}
use Rattle.txn_core.proofs.Steps.{adds_journaled}
use Rattle.txn_core.proofs.channel.MachineChannel.rollback_take.Goals as goal

pub returns : goal.returns
returns c = adds_journaled c.args.self.now (RollbackTake c.args.txn c.rollback_take.result) c.rollback_take.new.self c.rollback_take.ensures
