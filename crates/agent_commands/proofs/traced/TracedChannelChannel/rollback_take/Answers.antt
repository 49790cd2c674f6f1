use Rattle.std.proofs.Common.{refl}
use Rattle.channel_face.specs.Machine.{RollbackTake}
use Rattle.agent_commands.proofs.Trails.{adds_quietly}
use Rattle.agent_commands.proofs.traced.TracedChannelChannel.rollback_take.Goals as goal

pub returns : goal.returns
returns g c =
    let told = g.D.Disk.told in
    let faults = g.D.Disk.faults in
    let a = c.args.self.now.channel in
    let b = c.rollback_take-ended.new.self in
    adds_quietly (told a.0) (told b.0) (faults a.0) (faults b.0) a.1 b.1 (RollbackTake c.args.txn c.rollback_take-ended.result) _ c.rollback_take-ended.ensures.step c.rests.ensures c.rollback_take-ended.ensures.told refl (λ s. tt)
