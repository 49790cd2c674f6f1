use Rattle.std.proofs.Common.{refl}
use Rattle.channel_face.specs.Machine.{Checkpoint}
use Rattle.file_channel.proofs.Kept.{has_laid}
use Rattle.agent_commands.proofs.Trails.{adds_keeping}
use Rattle.agent_commands.proofs.traced.TracedChannelDurable.checkpoint.Goals as goal

pub returns-clause-step : goal.returns-clause-step
returns-clause-step g c =
    let told = g.D.Disk.told in
    let faults = g.D.Disk.faults in
    let a = c.args.self.now.channel in
    let b = c.checkpoint-reply.new.self in
    adds_keeping (told a.0) (told b.0) (faults a.0) (faults b.0) a.1 b.1 (Checkpoint c.checkpoint-reply.result) _ c.checkpoint-reply.ensures.step c.rests.ensures refl refl (λ s. tt)

pub returns-clause-laid : goal.returns-clause-laid
returns-clause-laid g c = λ start h stands. has_laid (g.D.Disk.told c.checkpoint-reply.new.self.0) c.args.self.now.channel.1.checks.next c.checkpoint-reply.result _ (c.checkpoint-reply.ensures.laid start h stands.stands)
