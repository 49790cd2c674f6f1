use Rattle.channel_face.specs.Machine.{Take}
use Rattle.agent_commands.proofs.Trails.{adds}
use Rattle.agent_commands.proofs.traced.TracedChannelChannel.take.Goals as goal

pub returns-clause-step : goal.returns-clause-step
returns-clause-step g c =
    let told = g.D.Disk.told in
    let faults = g.D.Disk.faults in
    let a = c.args.self.now.channel in
    let b = c.take-reply.new.self in
    let e = c.take-reply.ensures in
    adds (told a.0) (told b.0) (faults a.0) (faults b.0) a.1 b.1 (Take c.args.txn.now c.take-reply.result) _ e.step c.rests.ensures e.quiet e.any_moment (λ start h st. tt)
