use Rattle.std.proofs.Common.{◌≡◌, inl, inr, refl, sym, ap, subst, arith}
use Rattle.flume_host.specs.HostState.{Folders, HostState}
use Rattle.flume_host.proofs.Folders.{but_between}
use Rattle.flume_host.specs.Told.{Tells}
use Rattle.agent_commands.specs.Stored.{IsUnopened}
use Rattle.agent_commands.proofs.Outcomes.{early, given_back, untouched}
use Rattle.agent_commands.proofs.pipe.pipe.Goals as goal

pub returns-in-Ok-clause-piped : goal.returns-in-Ok-clause-piped
returns-in-Ok-clause-piped g c =
    given_back _ _ _ _ _ _ _ _ _ _ _ _ _ _ c.in-Ok.ensures.state.1 c.in-Ok.ensures.state.2 c.in-Ok.ensures.told.0 c.in-Ok.ensures.told.1 c.pipe_on-run.ensures.disks c.keep_disk.ensures.state.1 c.keep_disk.ensures.state.2 c.keep_disk.ensures.told c.pipe_on-run.ensures.piped

pub returns-in-Err-Failed-clause-piped : goal.returns-in-Err-Failed-clause-piped
returns-in-Err-Failed-clause-piped g c =
    let is = c.in-Err-Failed.ensures.state in
    let faults : (g.H.Host.state c.open_disk.new.self).faults ≡ is.0 = ap (λ (s : HostState). s.faults) is.1 in
    let folder = (g.H.Host.folders c.args.host.now).disks in
    let same : Tells (folder c.args.dir.now) ((g.H.Host.folders c.open_disk.new.self).disks c.args.dir.now) IsUnopened = subst (λ (f : Folders). Tells (folder c.args.dir.now) (f.disks c.args.dir.now) IsUnopened) (sym c.in-Err-Failed.ensures.refused) (untouched (folder c.args.dir.now)) in
    rw c.unopened.ensures (early _ _ _ _ _ _ 3 (ap (λ (s : HostState). s.input) is.1) (ap (λ (s : HostState). s.output) is.1) (inl refl) same
    (λ three. inl (let rose = is.2 c.in-Err-Failed.field-0-is in omega (arith, rose, faults))) (λ four. absurd (omega (arith, four))) (λ five. absurd (omega (arith, five))))

pub returns-in-Err-NoMemory-clause-piped : goal.returns-in-Err-NoMemory-clause-piped
returns-in-Err-NoMemory-clause-piped g c =
    let is = c.in-Err-NoMemory.ensures.state in
    let folder = (g.H.Host.folders c.args.host.now).disks in
    let same : Tells (folder c.args.dir.now) ((g.H.Host.folders c.open_disk.new.self).disks c.args.dir.now) IsUnopened = subst (λ (f : Folders). Tells (folder c.args.dir.now) (f.disks c.args.dir.now) IsUnopened) (sym c.in-Err-NoMemory.ensures.refused) (untouched (folder c.args.dir.now)) in
    rw c.unopened-in-Err-NoMemory.ensures (early _ _ _ _ _ _ 5 (ap (λ (s : HostState). s.input) is.1) (ap (λ (s : HostState). s.output) is.1) (inr (inr refl)) same
    (λ three. absurd (omega (arith, three))) (λ four. absurd (omega (arith, four))) (λ _. ap (λ (s : HostState). s.disk_faults) is.1))

pub returns-in-Ok-clause-others : goal.returns-in-Ok-clause-others
returns-in-Ok-clause-others g c = but_between _ _ _ _ _ c.in-Ok.ensures.others c.pipe_on-run.ensures.folders c.keep_disk.ensures.others
