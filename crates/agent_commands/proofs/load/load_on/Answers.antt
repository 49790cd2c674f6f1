use Rattle.std.proofs.Common.{◌≡◌, Result, inl, sym, subst}
use Rattle.std.specs.Prelude.{String}
use Rattle.std.specs.Global.{Global}
use Rattle.flume_host.specs.Causes.{RisesWhere}
use Rattle.agent_commands.specs.Loads.{RanOn, load_status}
use Rattle.agent_commands.specs.declared.load.LoadCause.{LoadCause}
use Rattle.agent_commands.proofs.Loaded.{left_closed, left_faults}
use Rattle.agent_commands.proofs.load.load_on.Goals as goal

pub returns-in-Err-clause-ran : goal.returns-in-Err-clause-ran
returns-in-Err-clause-ran g c =
    let told = g.D.Disk.told in
    let faults = g.D.Disk.faults in
    let refused = c.in-Err.field-0 in
    subst (λ (a : Result (String Global) LoadCause). RanOn c.args.n (told c.args.disk) (told refused.disk) c.ended.result.pass a) (sym c.ended.ensures.0)
    (c.ended.ensures.1, inl (left_closed (told c.args.disk) (told refused.disk) (faults c.args.disk) (faults refused.disk) refused.cause c.in-Err.ensures.refused c.in-Err.ensures.settled))

pub returns-in-Err-clause-faults : goal.returns-in-Err-clause-faults
returns-in-Err-clause-faults g c =
    let told = g.D.Disk.told in
    let faults = g.D.Disk.faults in
    let refused = c.in-Err.field-0 in
    subst (λ (a : Result (String Global) LoadCause). RisesWhere (load_status a ≡ 3) (faults c.args.disk) (faults refused.disk)) (sym c.ended.ensures.0) (left_faults (told c.args.disk) (told refused.disk) (faults c.args.disk) (faults refused.disk) refused.cause c.in-Err.ensures.refused)
