use Rattle.std.proofs.Common.{ap, refl}
use Rattle.channel_face.specs.Machine.{Prune}
use Rattle.file_channel.specs.Laid.{CheckState}
use Rattle.file_channel.proofs.Kept.{pruned_by}
use Rattle.agent_commands.proofs.Trails.{adds_keeping}
use Rattle.agent_commands.proofs.traced.TracedChannelDurable.prune.Goals as goal

pub returns-clause-step : goal.returns-clause-step
returns-clause-step g c =
    let told = g.D.Disk.told in
    let faults = g.D.Disk.faults in
    let a = c.args.self.now.channel in
    let b = c.prune-reply.new.self in
    adds_keeping (told a.0) (told b.0) (faults a.0) (faults b.0) a.1 b.1 (Prune c.prune-reply.result) _ c.prune-reply.ensures.step c.rests.ensures refl refl (λ s. tt)

pub returns-clause-gone : goal.returns-clause-gone
returns-clause-gone g c =
    let before = c.args.self.now.channel.1.checks in
    let after = c.prune-reply.new.self.1.checks in
    pruned_by (g.D.Disk.told c.prune-reply.new.self.0) c.prune-reply.result before.laid after.laid (ap (λ (k : CheckState). k.laid) c.prune-reply.ensures.checks) c.prune-reply.ensures.gone
