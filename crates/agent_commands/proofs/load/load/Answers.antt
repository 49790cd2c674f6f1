use Rattle.std.proofs.Common.{inl, inr, refl, ap, arith}
use Rattle.flume_host.specs.HostState.{Folders, HostState}
use Rattle.flume_host.proofs.Folders.{but_between}
use Rattle.channel_face.specs.declared.replies.OpenCause.TheVariants as causes
use Rattle.agent_commands.proofs.Loaded.{ran_back, ran_none}
use Rattle.agent_commands.proofs.load.load.Goals as goal

pub returns-in-Ok-clause-ran : goal.returns-in-Ok-clause-ran
returns-in-Ok-clause-ran g c =
    ran_back _ _ _ _ _ _ _ _ _ _ _ _ _ _ c.in-Ok.ensures.state.1 c.in-Ok.ensures.state.2 c.in-Ok.ensures.told.0 c.in-Ok.ensures.told.1 c.keep_disk.ensures.state.1 c.keep_disk.ensures.state.2 c.keep_disk.ensures.told c.load_on-run.ensures.ran c.load_on-run.ensures.faults

pub returns-in-Err-Failed-clause-ran : goal.returns-in-Err-Failed-clause-ran
returns-in-Err-Failed-clause-ran g c =
    let is = c.in-Err-Failed.ensures.state in
    let same = ap (λ (f : Folders). f.disks c.args.dir.now) c.in-Err-Failed.ensures.refused in
    ran_none _ _ _ _ _ _ _ _ causes.DiskFault is.1 c.ended.ensures.1 c.ended.ensures.0 (λ of. of) same (let l = c.in-Err-Failed.ensures.later in let e = ap (λ (s : HostState). s.faults) is.1 in omega (arith, l, e)) (λ _. is.2 c.in-Err-Failed.field-0-is) (λ either. elim either [ inl zero ↦ omega (arith, zero) | inr four ↦ omega (arith, four) ])

pub returns-in-Err-NoMemory-clause-ran : goal.returns-in-Err-NoMemory-clause-ran
returns-in-Err-NoMemory-clause-ran g c =
    let is = c.in-Err-NoMemory.ensures.state in
    let same = ap (λ (f : Folders). f.disks c.args.dir.now) c.in-Err-NoMemory.ensures.refused in
    ran_none _ _ _ _ _ _ _ _ causes.NoMemory is.1 c.ended-in-Err-NoMemory.ensures.1 c.ended-in-Err-NoMemory.ensures.0 (λ of. of) same (let l = c.in-Err-NoMemory.ensures.later in let e = ap (λ (s : HostState). s.faults) is.1 in omega (arith, l, e)) (λ three. absurd (omega (arith, three))) (λ either. elim either [ inl zero ↦ omega (arith, zero) | inr four ↦ omega (arith, four) ])

pub returns-in-Ok-clause-others : goal.returns-in-Ok-clause-others
returns-in-Ok-clause-others g c = but_between _ _ _ _ _ c.in-Ok.ensures.others refl c.keep_disk.ensures.others
