use Rattle.std.proofs.Common.{◌≡◌, ◌⊎◌, ◌≤◌, ◌-◌, ◌^◌, Err, IfErr, Result, length, refl, ap}
use Rattle.flume_host.specs.Told.{LeavesOnly, Tells, WhereTold}
use Rattle.channel_face.specs.History.{reopen_reply}
use Rattle.channel_face.specs.Machine.{Reopen, Reopened, State, base_of}
use Rattle.channel_face.specs.declared.replies.Counter.TheVariants.{Life}
use Rattle.channel_face.specs.declared.replies.OpenCause.{OpenCause}
use Rattle.channel_face.specs.declared.replies.OpenCause.TheVariants as causes
use Rattle.channel_writing.specs.Folders.{IsRefused, Opens}
use Rattle.channel_writing.specs.Written.{MayRecover}
use Rattle.channel_writing.proofs.Reopening.{refused_as}
use Rattle.channel_writing.proofs.Standing.{reopen_fault, still_by}
use Rattle.txn_core.specs.Counted.{tally_of}
use Rattle.txn_core.specs.declared.calls.Call.TheVariants as notes
use Rattle.std.specs.Prelude.{OnOk}
use Rattle.file_channel.specs.Placed.{IsStateOf}
use Rattle.file_channel.specs.Stands.{FileState}
use Rattle.file_channel.proofs.Standing.{quiet_tally, shows_each, standing_on}
use Rattle.file_channel.proofs.Reopening.{DidReopenIn, adds_reopened, ok_each}
use Rattle.file_channel.proofs.channel.FileChannel.reopen.Goals as goal

pub returns-clause-step : goal.returns-clause-step
returns-clause-step g c =
    let m = c.self.inside in
    let r = c.reopen-result.result in
    let e = c.reopen-result.ensures in
    let told = g.D.Disk.told m.logged.0 in
    let told' = g.D.Disk.told c.reopen-result.new.self.0 in
    let f = g.D.Disk.faults m.logged.0 in
    let f' = g.D.Disk.faults c.reopen-result.new.self.0 in
    let kept : Reopened = e.step.0 in
    let reply : Result Reopened OpenCause = reopen_reply r kept in
    let old : FileState = record { logged = m.logged.1; tally = tally_of m.counts; waiting = length m.logged.1.log.bytes; checks = m.checks } in
    let new : FileState = record { logged = c.reopen-result.new.self.1; tally = tally_of c.note.new.counts; waiting = length c.reopen-result.new.self.1.log.bytes; checks = c.reopen-result.new.checks } in
    let did : (s : State) → IsStateOf told old.logged s → DidReopenIn told told' f f' old new reply s = λ s is. record {
      steps = e.step.1 s is;
      tally = quiet_tally m.counts c.note.new.counts notes.Reopen c.quiet-reply.result _ s (Reopen reply) c.note.ensures.noted c.quiet-reply.ensures refl refl refl;
      waits = (e.step.1 s is).waits;
      up = e.later;
      cause = λ fault. e.fault (reopen_fault r kept fault);
      still = still_by r kept _ told told' f f' s.rules.limits.capacity e.well (λ same. ap g.D.Disk.faults same) (e.refused s is);
      spent = λ end. ap g.D.Disk.told ((e.spent s is end).1);
      images = e.any_moment s is;
    } in
    rw (← c.self.view_is) (kept, adds_reopened told told' f f' old new reply did)

pub invariant_of-self : goal.invariant_of-self
invariant_of-self g c =
    let m = c.self.inside in
    let r = c.reopen-result.result in
    let e = c.reopen-result.ensures in
    let told = g.D.Disk.told m.logged.0 in
    let told' = g.D.Disk.told c.reopen-result.new.self.0 in
    let f = g.D.Disk.faults m.logged.0 in
    let f' = g.D.Disk.faults c.reopen-result.new.self.0 in
    let kept : Reopened = e.step.0 in
    let reply : Result Reopened OpenCause = reopen_reply r kept in
    let old : FileState = record { logged = m.logged.1; tally = tally_of m.counts; waiting = length m.logged.1.log.bytes; checks = m.checks } in
    let new : FileState = record { logged = c.reopen-result.new.self.1; tally = tally_of c.note.new.counts; waiting = length c.reopen-result.new.self.1.log.bytes; checks = c.reopen-result.new.checks } in
    let did : (s : State) → IsStateOf told old.logged s → DidReopenIn told told' f f' old new reply s = λ s is. record {
      steps = e.step.1 s is;
      tally = quiet_tally m.counts c.note.new.counts notes.Reopen c.quiet-reply.result _ s (Reopen reply) c.note.ensures.noted c.quiet-reply.ensures refl refl refl;
      waits = (e.step.1 s is).waits;
      up = e.later;
      cause = λ fault. e.fault (reopen_fault r kept fault);
      still = still_by r kept _ told told' f f' s.rules.limits.capacity e.well (λ same. ap g.D.Disk.faults same) (e.refused s is);
      spent = λ end. ap g.D.Disk.told ((e.spent s is end).1);
      images = e.any_moment s is;
    } in
    (standing_on told told' f f' old new (Reopen reply) _ c.self.invariant.0 (adds_reopened told told' f f' old new reply did), e.checks)

pub returns-clause-opens : goal.returns-clause-opens
returns-clause-opens g c =
    let m = c.self.inside in
    let told = g.D.Disk.told m.logged.0 in
    let told' = g.D.Disk.told c.reopen-result.new.self.0 in
    let f' = g.D.Disk.faults c.reopen-result.new.self.0 in
    let new : FileState = record { logged = c.reopen-result.new.self.1; tally = tally_of c.note.new.counts; waiting = length c.reopen-result.new.self.1.log.bytes; checks = c.reopen-result.new.checks } in
    let Q : State → Type 0 = λ s. WhereTold told (λ t. Opens t.reads s.rules.limits.capacity (base_of s) s.txn) in
    rw (← c.self.view_is) (shows_each told' f' new (λ s. OnOk c.reopen-result.result (Q s)) (λ s is. ok_each c.reopen-result.result ((v : State) → IsStateOf told' new.logged v → Q v) (Q s) (λ each. each s is) c.reopen-result.ensures.opens))

pub returns-clause-any_moment : goal.returns-clause-any_moment
returns-clause-any_moment g c =
    let m = c.self.inside in
    let told = g.D.Disk.told m.logged.0 in
    let told' = g.D.Disk.told c.reopen-result.new.self.0 in
    let old : FileState = record { logged = m.logged.1; tally = tally_of m.counts; waiting = length m.logged.1.log.bytes; checks = m.checks } in
    rw (← c.self.view_is) (shows_each told (g.D.Disk.faults m.logged.0) old (λ s. Tells told told' (λ t u. LeavesOnly t u (MayRecover s))) c.reopen-result.ensures.any_moment)

pub returns-clause-spent : goal.returns-clause-spent
returns-clause-spent g c =
    let m = c.self.inside in
    let told = g.D.Disk.told in
    let faults = g.D.Disk.faults in
    let old : FileState = record { logged = m.logged.1; tally = tally_of m.counts; waiting = length m.logged.1.log.bytes; checks = m.checks } in
    rw (← c.self.view_is) (shows_each (told m.logged.0) (faults m.logged.0) old (λ s. 2 ^ 64 - 1 ≤ s.life → (c.reopen-result.result ≡ Err (causes.Spent Life)) × (told c.reopen-result.new.self.0 ≡ told m.logged.0) × (faults c.reopen-result.new.self.0 ≡ faults m.logged.0)) (λ s is end. let both = c.reopen-result.ensures.spent s is end in (both.0, ap told both.1, ap faults both.1)))

pub returns-clause-refused : goal.returns-clause-refused
returns-clause-refused g c =
    let m = c.self.inside in
    let told = g.D.Disk.told in
    let faults = g.D.Disk.faults in
    let was = m.logged.0 in
    let now = c.reopen-result.new.self.0 in
    let old : FileState = record { logged = m.logged.1; tally = tally_of m.counts; waiting = length m.logged.1.log.bytes; checks = m.checks } in
    let P : State → Type 0 = λ s. IfErr c.reopen-result.result (λ cause. ((cause ≡ causes.Spent Life) × (told now ≡ told was) × (faults now ≡ faults was)) ⊎ IsRefused (told was) (told now) (faults was) (faults now) s.rules.limits.capacity cause) in
    rw (← c.self.view_is) (shows_each (told was) (faults was) old P (λ s is. refused_as c.reopen-result.result (λ e. e ≡ causes.Spent Life) (λ e. IsRefused (told was) (told now) (faults was) (faults now) s.rules.limits.capacity e) (now ≡ was) (told now ≡ told was) (faults now ≡ faults was) (λ same. ap told same) (λ same. ap faults same) (c.reopen-result.ensures.refused s is)))

pub returns-clause-laid : goal.returns-clause-laid
returns-clause-laid g c = rw (← c.self.view_is) c.reopen-result.ensures.newest
