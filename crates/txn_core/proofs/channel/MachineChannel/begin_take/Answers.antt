use Rattle.channel_face.specs.Machine.{BeginTake}
use Rattle.txn_core.proofs.Steps.{adds_journaled}
use Rattle.txn_core.proofs.channel.MachineChannel.begin_take.Goals as goal

pub returns : goal.returns
returns c = adds_journaled c.args.self.now (BeginTake c.begin_take.result) c.begin_take.new.self c.begin_take.ensures
