use Rattle.std.proofs.Common.{◌≡◌, ◌+◌, ◌<◌, ◌≤◌, ◌^◌, ℕ, Some, Result, ap, subst, sym, arith, length}
use Rattle.std.specs.Prelude.{String}
use Rattle.std.specs.Global.{Global}
use Rattle.flume_host.specs.Causes.{RisesWhere}
use Rattle.load_gen.specs.Calls.{Makes}
use Rattle.load_gen.specs.Runs.{Generates}
use Rattle.shared_channel.specs.Calls.{state_seen}
use Rattle.shared_channel.specs.Passes.{Known}
use Rattle.agent_commands.specs.Loads.{RanOn, load_status}
use Rattle.agent_commands.specs.declared.load.LoadCause.{LoadCause}
use Rattle.agent_commands.specs.declared.traced.TracedChannel.{TracedChannel}
use Rattle.agent_commands.proofs.Loaded.{ran_faults, ran_on}
use Rattle.agent_commands.proofs.Loading.{Closing, loaded}
use Rattle.agent_commands.proofs.load.load_pass.Given as given
use Rattle.agent_commands.proofs.load.load_pass.Goals as goal

closing : (g : given.Over) (c : goal.After-drop-before g) → Closing c.args.n (g.D.Disk.told c.args.before.value) (g.D.Disk.told c.close-channel.result.channel.channel.0) (g.D.Disk.faults c.close-channel.result.channel.channel.0) c.requires.first.start c.close-channel.result.pass c.generate-answer.result
closing g c =
    let T = TracedChannel g.row.D.Denot in
    let first = c.requires.first in
    let n = c.args.n in
    let q = c.generate-answer.new.pass in
    let k = c.close-channel.ensures in
    let fits : n < 2 ^ 32 = omega arith in
    let makes = subst (λ (p : Known). Makes p.number p.view q.view (Generates n (length q.view.seen) (state_seen q.view) c.generate-answer.result)) first.fresh c.generate-answer.ensures.calls in
    let room : length first.start.base.items + n ≤ 1000000 = let r = c.requires.room in let e = ap (λ (p : Known). length p.view.base.base.items) first.fresh in omega (arith, r, e) in
    loaded (λ (x : T). g.D.Disk.told x.channel.0) (λ (x : T). g.D.Disk.faults x.channel.0) (λ (x : T). x.channel.1) (g.D.Disk.told c.args.before.value) first.start c.args.shared.turn.table.shared.table_id n fits q c.close-channel.result.pass c.close-channel.result.channel c.generate-answer.result
    makes k.left k.channel k.whole first.begins room

pub returns-clause-ran : goal.returns-clause-ran
returns-clause-ran g c =
    let told = g.D.Disk.told in
    let before = told c.args.before.value in
    let ch = c.close-channel.result.channel.channel in
    let w = c.close-channel.result.pass in
    let r = ran_on c.args.n before (told ch.0) (g.D.Disk.faults ch.0) c.requires.first.start w c.generate-answer.result (closing g c) in
    subst (λ (d : g.row.D.Denot). RanOn c.args.n before (told d) (Some w) c.as_cause.result) (sym c.close-disk.ensures) (subst (λ (a : Result (String Global) LoadCause). RanOn c.args.n before (told ch.0) (Some w) a) (sym c.as_cause.ensures) r)

pub returns-clause-faults : goal.returns-clause-faults
returns-clause-faults g c =
    let told = g.D.Disk.told in
    let faults = g.D.Disk.faults in
    let before = told c.args.before.value in
    let ch = c.close-channel.result.channel.channel in
    let first = c.requires.first in
    let r = ran_faults c.args.n before (told ch.0) (faults ch.0) first.start c.close-channel.result.pass c.generate-answer.result (closing g c) in
    subst (λ (d : g.row.D.Denot). RisesWhere (load_status c.as_cause.result ≡ 3) (faults c.args.before.value) (faults d)) (sym c.close-disk.ensures)
    (subst (λ (m : ℕ). RisesWhere (load_status c.as_cause.result ≡ 3) m (faults ch.0)) first.faults_then (subst (λ (a : Result (String Global) LoadCause). RisesWhere (load_status a ≡ 3) first.start.faults (faults ch.0)) (sym c.as_cause.ensures) r))
