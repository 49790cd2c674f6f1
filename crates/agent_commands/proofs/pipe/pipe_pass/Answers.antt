use Rattle.agent_commands.specs.declared.traced.TracedChannel.{TracedChannel}
use Rattle.std.proofs.Common.{ap}
use Rattle.agent_commands.proofs.Outcomes.{piped_by}
use Rattle.agent_commands.proofs.pipe.pipe_pass.Goals as goal

pub returns-clause-piped : goal.returns-clause-piped
returns-clause-piped g c =
    let told = g.H.Disk.Disk.told in
    let faults = g.H.Disk.Disk.faults in
    let C = TracedChannel g.row.H-Disk.Denot in
    let e = c.serve_pass-end.ensures in
    let k = c.close-channel.ensures in
    (piped_by (λ (x : C). told x.channel.0) (λ (x : C). faults x.channel.0) (λ (x : C). x.channel.1) (g.H.Host.state c.args.host.now) (g.H.Host.state c.serve_pass-end.new.host) (told c.args.before.value) (told c.close-disk.result)
    (faults c.args.before.value) (faults c.close-disk.result) c.requires.first.start c.args.shared.turn.table.shared.table_id c.args.pass c.serve_pass-end.result.1 c.close-channel.result.pass c.close-channel.result.channel c.serve_pass-end.result.0
    c.requires.first.fresh e.served k.left k.channel k.whole c.requires.first.begins c.requires.first.faults_then e.cause e.handed (ap told c.close-disk.ensures) (ap faults c.close-disk.ensures)).0

pub returns-clause-disk_later : goal.returns-clause-disk_later
returns-clause-disk_later g c =
    let told = g.H.Disk.Disk.told in
    let faults = g.H.Disk.Disk.faults in
    let C = TracedChannel g.row.H-Disk.Denot in
    let e = c.serve_pass-end.ensures in
    let k = c.close-channel.ensures in
    (piped_by (λ (x : C). told x.channel.0) (λ (x : C). faults x.channel.0) (λ (x : C). x.channel.1) (g.H.Host.state c.args.host.now) (g.H.Host.state c.serve_pass-end.new.host) (told c.args.before.value) (told c.close-disk.result)
    (faults c.args.before.value) (faults c.close-disk.result) c.requires.first.start c.args.shared.turn.table.shared.table_id c.args.pass c.serve_pass-end.result.1 c.close-channel.result.pass c.close-channel.result.channel c.serve_pass-end.result.0
    c.requires.first.fresh e.served k.left k.channel k.whole c.requires.first.begins c.requires.first.faults_then e.cause e.handed (ap told c.close-disk.ensures) (ap faults c.close-disk.ensures)).1
