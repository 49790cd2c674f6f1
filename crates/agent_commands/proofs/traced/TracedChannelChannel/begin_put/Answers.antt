use Rattle.std.proofs.Common.{refl}
use Rattle.channel_face.specs.Machine.{BeginPut}
use Rattle.agent_commands.proofs.Trails.{adds_quietly}
use Rattle.agent_commands.proofs.traced.TracedChannelChannel.begin_put.Goals as goal

pub returns : goal.returns
returns g c =
    let told = g.D.Disk.told in
    let faults = g.D.Disk.faults in
    let a = c.args.self.now.channel in
    let b = c.begin_put-reply.new.self in
    adds_quietly (told a.0) (told b.0) (faults a.0) (faults b.0) a.1 b.1 (BeginPut c.begin_put-reply.result) _ c.begin_put-reply.ensures.step c.rests.ensures c.begin_put-reply.ensures.told refl (λ s. tt)
