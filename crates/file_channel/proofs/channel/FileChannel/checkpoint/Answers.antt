use Rattle.std.proofs.Common.{◌≡◌, ◌<◌, length, Err, true, false, ap}
use Rattle.std.specs.Prelude.{◌↔◌, IsErrOf, OnOk}
use Rattle.flume_host.specs.Told.{LeavesOnly, Tells, WhereTold}
use Rattle.channel_face.specs.Machine.{State, Checkpoint, settle}
use Rattle.channel_face.specs.declared.replies.CheckRefused.TheVariants as CheckNo
use Rattle.channel_face.specs.declared.replies.Counter.TheVariants as counters
use Rattle.channel_writing.specs.Touches.{FillsFiles}
use Rattle.channel_writing.specs.Written.{MayRecover}
use Rattle.checkpoint.specs.Text.{CheckText}
use Rattle.txn_core.specs.Counted.{tally_of}
use Rattle.file_channel.specs.Laid.{IsLaid, Lays, MayBeLaid, is_made, is_tried}
use Rattle.file_channel.specs.Placed.{IsStateOf}
use Rattle.file_channel.specs.Stands.{FileState}
use Rattle.file_channel.proofs.Checkpoints.{check_tally, check_touched, fault_rose, laid_at_end, left_at_end}
use Rattle.file_channel.proofs.Standing.{DidSo, adds_did_so, shows_each, standing_on}
use Rattle.file_channel.proofs.channel.FileChannel.checkpoint.Goals as goal

pub returns-clause-step : goal.returns-clause-step
returns-clause-step g c =
    let m = c.self.inside in
    let r = c.checkpoint-result.result in
    let e = c.checkpoint-result.ensures in
    let told = g.D.Disk.told m.logged.0 in
    let told' = g.D.Disk.told c.checkpoint-result.new.self.0 in
    let f = g.D.Disk.faults m.logged.0 in
    let f' = g.D.Disk.faults c.checkpoint-result.new.self.0 in
    let old : FileState = record { logged = m.logged.1; tally = tally_of m.counts; waiting = length m.logged.1.log.bytes; checks = m.checks } in
    let new : FileState = record { logged = c.checkpoint-result.new.self.1; tally = tally_of c.note.new.counts; waiting = length c.checkpoint-result.new.self.1.log.bytes; checks = c.checkpoint-result.new.checks } in
    let did : (s : State) → IsStateOf told old.logged s → DidSo told told' f f' old new (Checkpoint r) s = λ s is. record {
      steps = e.step s is;
      tally = check_tally m.counts c.note.new.counts c.check_reply-reply.result c.staged-staged.result.0 c.staged-staged.result.1 s r c.note.ensures.noted c.check_reply-reply.ensures.puts c.check_reply-reply.ensures.takes (c.staged-staged.ensures.puts s is) (c.staged-staged.ensures.takes s is);
      waits = (e.step s is).waits;
      up = e.later;
      cause = fault_rose f f' r e.fault e.check;
      still = e.well;
      touched = check_touched told told' s r (λ quiet. ap g.D.Disk.told (e.quiet quiet)) (e.any_moment s is);
    } in
    rw (← c.self.view_is) (adds_did_so told told' f f' old new (Checkpoint r) did)

pub invariant_of-self : goal.invariant_of-self
invariant_of-self g c =
    let m = c.self.inside in
    let r = c.checkpoint-result.result in
    let e = c.checkpoint-result.ensures in
    let told = g.D.Disk.told m.logged.0 in
    let told' = g.D.Disk.told c.checkpoint-result.new.self.0 in
    let f = g.D.Disk.faults m.logged.0 in
    let f' = g.D.Disk.faults c.checkpoint-result.new.self.0 in
    let old : FileState = record { logged = m.logged.1; tally = tally_of m.counts; waiting = length m.logged.1.log.bytes; checks = m.checks } in
    let new : FileState = record { logged = c.checkpoint-result.new.self.1; tally = tally_of c.note.new.counts; waiting = length c.checkpoint-result.new.self.1.log.bytes; checks = c.checkpoint-result.new.checks } in
    let did : (s : State) → IsStateOf told old.logged s → DidSo told told' f f' old new (Checkpoint r) s = λ s is. record {
      steps = e.step s is;
      tally = check_tally m.counts c.note.new.counts c.check_reply-reply.result c.staged-staged.result.0 c.staged-staged.result.1 s r c.note.ensures.noted c.check_reply-reply.ensures.puts c.check_reply-reply.ensures.takes (c.staged-staged.ensures.puts s is) (c.staged-staged.ensures.takes s is);
      waits = (e.step s is).waits;
      up = e.later;
      cause = fault_rose f f' r e.fault e.check;
      still = e.well;
      touched = check_touched told told' s r (λ quiet. ap g.D.Disk.told (e.quiet quiet)) (e.any_moment s is);
    } in
    (standing_on told told' f f' old new (Checkpoint r) _ c.self.invariant.0 (adds_did_so told told' f f' old new (Checkpoint r) did), e.checks)

pub returns-clause-spent : goal.returns-clause-spent
returns-clause-spent g c =
    let m = c.self.inside in
    let r = c.checkpoint-result.result in
    let e = c.checkpoint-result.ensures in
    let told = g.D.Disk.told m.logged.0 in
    let told' = g.D.Disk.told c.checkpoint-result.new.self.0 in
    let f = g.D.Disk.faults m.logged.0 in
    let f' = g.D.Disk.faults c.checkpoint-result.new.self.0 in
    let old : FileState = record { logged = m.logged.1; tally = tally_of m.counts; waiting = length m.logged.1.log.bytes; checks = m.checks } in
    let new : FileState = record { logged = c.checkpoint-result.new.self.1; tally = tally_of c.note.new.counts; waiting = length c.checkpoint-result.new.self.1.log.bytes; checks = c.checkpoint-result.new.checks } in
    rw (← c.self.view_is) (shows_each told f old (λ s. s.broken ≡ false → (r ≡ Err (CheckNo.Spent counters.Check)) ↔ (4_294_967_295 < m.checks.next)) e.spent)

pub returns-clause-any_moment : goal.returns-clause-any_moment
returns-clause-any_moment g c =
    let m = c.self.inside in
    let r = c.checkpoint-result.result in
    let e = c.checkpoint-result.ensures in
    let told = g.D.Disk.told m.logged.0 in
    let told' = g.D.Disk.told c.checkpoint-result.new.self.0 in
    let f = g.D.Disk.faults m.logged.0 in
    let f' = g.D.Disk.faults c.checkpoint-result.new.self.0 in
    let old : FileState = record { logged = m.logged.1; tally = tally_of m.counts; waiting = length m.logged.1.log.bytes; checks = m.checks } in
    let new : FileState = record { logged = c.checkpoint-result.new.self.1; tally = tally_of c.note.new.counts; waiting = length c.checkpoint-result.new.self.1.log.bytes; checks = c.checkpoint-result.new.checks } in
    rw (← c.self.view_is) (shows_each told f old (λ s. is_tried r ≡ true → (s.broken ≡ false) × Tells told told' (λ t u. LeavesOnly t u (MayRecover s))) e.any_moment)

pub returns-clause-fills : goal.returns-clause-fills
returns-clause-fills g c =
    let m = c.self.inside in
    let r = c.checkpoint-result.result in
    let e = c.checkpoint-result.ensures in
    let told = g.D.Disk.told m.logged.0 in
    let told' = g.D.Disk.told c.checkpoint-result.new.self.0 in
    let f = g.D.Disk.faults m.logged.0 in
    let f' = g.D.Disk.faults c.checkpoint-result.new.self.0 in
    let old : FileState = record { logged = m.logged.1; tally = tally_of m.counts; waiting = length m.logged.1.log.bytes; checks = m.checks } in
    let new : FileState = record { logged = c.checkpoint-result.new.self.1; tally = tally_of c.note.new.counts; waiting = length c.checkpoint-result.new.self.1.log.bytes; checks = c.checkpoint-result.new.checks } in
    rw (← c.self.view_is) (shows_each told f old (λ s. IsErrOf r CheckNo.DiskFault → Tells told told' (FillsFiles s.rules.limits.max_file old.waiting)) e.fills)

pub returns-clause-lays : goal.returns-clause-lays
returns-clause-lays g c =
    let m = c.self.inside in
    let r = c.checkpoint-result.result in
    let e = c.checkpoint-result.ensures in
    let told = g.D.Disk.told m.logged.0 in
    let told' = g.D.Disk.told c.checkpoint-result.new.self.0 in
    let f = g.D.Disk.faults m.logged.0 in
    let f' = g.D.Disk.faults c.checkpoint-result.new.self.0 in
    let old : FileState = record { logged = m.logged.1; tally = tally_of m.counts; waiting = length m.logged.1.log.bytes; checks = m.checks } in
    let new : FileState = record { logged = c.checkpoint-result.new.self.1; tally = tally_of c.note.new.counts; waiting = length c.checkpoint-result.new.self.1.log.bytes; checks = c.checkpoint-result.new.checks } in
    rw (← c.self.view_is) (shows_each told f old (λ s. is_made r ≡ true → (text : CheckText) × Tells told told' (Lays m.checks.next s.rules.limits.max_file old.waiting text)) e.lays)

pub returns-clause-left : goal.returns-clause-left
returns-clause-left g c =
    let m = c.self.inside in
    let r = c.checkpoint-result.result in
    let e = c.checkpoint-result.ensures in
    let told = g.D.Disk.told m.logged.0 in
    let told' = g.D.Disk.told c.checkpoint-result.new.self.0 in
    let f = g.D.Disk.faults m.logged.0 in
    let f' = g.D.Disk.faults c.checkpoint-result.new.self.0 in
    let old : FileState = record { logged = m.logged.1; tally = tally_of m.counts; waiting = length m.logged.1.log.bytes; checks = m.checks } in
    let new : FileState = record { logged = c.checkpoint-result.new.self.1; tally = tally_of c.note.new.counts; waiting = length c.checkpoint-result.new.self.1.log.bytes; checks = c.checkpoint-result.new.checks } in
    rw (← c.self.view_is) (shows_each told f old (λ s. is_made r ≡ true → WhereTold told' (MayBeLaid m.checks.next (settle s))) (λ s is. left_at_end told' new.logged m.checks.next s r (e.step s is).stands (λ tried. (e.any_moment s is tried).0) (e.left s is)))

pub returns-clause-laid : goal.returns-clause-laid
returns-clause-laid g c =
    let m = c.self.inside in
    let r = c.checkpoint-result.result in
    let e = c.checkpoint-result.ensures in
    let told = g.D.Disk.told m.logged.0 in
    let told' = g.D.Disk.told c.checkpoint-result.new.self.0 in
    let f = g.D.Disk.faults m.logged.0 in
    let f' = g.D.Disk.faults c.checkpoint-result.new.self.0 in
    let old : FileState = record { logged = m.logged.1; tally = tally_of m.counts; waiting = length m.logged.1.log.bytes; checks = m.checks } in
    let new : FileState = record { logged = c.checkpoint-result.new.self.1; tally = tally_of c.note.new.counts; waiting = length c.checkpoint-result.new.self.1.log.bytes; checks = c.checkpoint-result.new.checks } in
    rw (← c.self.view_is) (shows_each told f old (λ s. OnOk r (WhereTold told' (IsLaid m.checks.next (settle s)))) (λ s is. laid_at_end told' new.logged m.checks.next s r (e.step s is).stands (λ tried. (e.any_moment s is tried).0) (e.laid s is)))
