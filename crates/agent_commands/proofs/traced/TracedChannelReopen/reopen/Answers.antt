use Rattle.std.proofs.Common.{refl}
use Rattle.channel_face.specs.History.{reopen_reply}
use Rattle.channel_face.specs.Machine.{Reopen}
use Rattle.agent_commands.proofs.Trails.{adds_keeping}
use Rattle.agent_commands.proofs.traced.TracedChannelReopen.reopen.Goals as goal

pub returns-clause-step : goal.returns-clause-step
returns-clause-step g c =
    let told = g.D.Disk.told in
    let faults = g.D.Disk.faults in
    let a = c.args.self.now.channel in
    let b = c.reopen-reply.new.self in
    let step = c.reopen-reply.ensures.step in
    (step.0, adds_keeping (told a.0) (told b.0) (faults a.0) (faults b.0) a.1 b.1 (Reopen (reopen_reply c.reopen-reply.result step.0)) _ step.1 c.rests.ensures refl refl (λ s. tt))
