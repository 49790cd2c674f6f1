use Rattle.std.proofs.Common.{◌≡◌, length, Err, false, true}
use Rattle.channel_face.specs.Machine.{State, Take, size_of_list, takes_of}
use Rattle.std.proofs.Common.{inl, inr}
use Rattle.std.specs.Prelude.{◌↔◌, IfOk, IsErrOf, IsSome}
use Rattle.flume_host.specs.Told.{Tells, WhereTold}
use Rattle.channel_face.specs.declared.replies.Counter.TheVariants.{File}
use Rattle.channel_face.specs.declared.replies.TakeRefused.TheVariants as TakeNo
use Rattle.channel_writing.specs.Touches.{FillsFiles, Flushed, HadNoRoom, HasNoRoom, IsSpentLog, flushes, room_of}
use Rattle.file_channel.specs.Placed.{IsStateOf}
use Rattle.file_channel.specs.Stands.{FileState}
use Rattle.txn_core.specs.Counted.{tally_of}
use Rattle.file_channel.proofs.Standing.{Did, adds_did, shows_each, standing_on, still_checks, take_is_fault, take_tally}
use Rattle.file_channel.proofs.channel.FileChannelChannel.take.Goals as goal

pub returns-clause-step : goal.returns-clause-step
returns-clause-step g c =
    let m = c.self.inside in
    let told = g.D.Disk.told m.logged.0 in
    let told' = g.D.Disk.told c.take-result.new.self.0 in
    let f = g.D.Disk.faults m.logged.0 in
    let f' = g.D.Disk.faults c.take-result.new.self.0 in
    let old : FileState = record { logged = m.logged.1; tally = tally_of m.counts; waiting = length m.logged.1.log.bytes; checks = m.checks } in
    let new : FileState = record { logged = c.take-result.new.self.1; tally = tally_of c.note.new.counts; waiting = length c.take-result.new.self.1.log.bytes; checks = m.checks } in
    let did : (s : State) → IsStateOf told old.logged s → Did told told' f f' old new (Take c.args.txn.now c.take-result.result) s = λ s is. record {
      steps = c.take-result.ensures.step s is;
      tally = take_tally m.counts c.note.new.counts c.take_reply-reply.result c.staged-staged.result.0 c.staged-staged.result.1 s c.args.txn.now c.take-result.result c.note.ensures.noted c.take_reply-reply.ensures.puts c.take_reply-reply.ensures.takes (c.staged-staged.ensures.puts s is) (c.staged-staged.ensures.takes s is);
      waits = (c.take-result.ensures.step s is).waits;
      up = c.take-result.ensures.later;
      cause = λ fault. elim (take_is_fault c.args.txn.now c.take-result.result fault) [ inl read ↦ c.take-result.ensures.read read | inr disk ↦ c.take-result.ensures.fault disk ];
      still = c.take-result.ensures.well;
      quiet = λ none. c.take-result.ensures.quiet none;
      flushed = c.take-result.ensures.any_moment s is;
    } in
    rw (← c.self.view_is) (adds_did told told' f f' old new (Take c.args.txn.now c.take-result.result) did)

pub invariant_of-self : goal.invariant_of-self
invariant_of-self g c =
    let m = c.self.inside in
    let told = g.D.Disk.told m.logged.0 in
    let told' = g.D.Disk.told c.take-result.new.self.0 in
    let f = g.D.Disk.faults m.logged.0 in
    let f' = g.D.Disk.faults c.take-result.new.self.0 in
    let old : FileState = record { logged = m.logged.1; tally = tally_of m.counts; waiting = length m.logged.1.log.bytes; checks = m.checks } in
    let new : FileState = record { logged = c.take-result.new.self.1; tally = tally_of c.note.new.counts; waiting = length c.take-result.new.self.1.log.bytes; checks = m.checks } in
    let did : (s : State) → IsStateOf told old.logged s → Did told told' f f' old new (Take c.args.txn.now c.take-result.result) s = λ s is. record {
      steps = c.take-result.ensures.step s is;
      tally = take_tally m.counts c.note.new.counts c.take_reply-reply.result c.staged-staged.result.0 c.staged-staged.result.1 s c.args.txn.now c.take-result.result c.note.ensures.noted c.take_reply-reply.ensures.puts c.take_reply-reply.ensures.takes (c.staged-staged.ensures.puts s is) (c.staged-staged.ensures.takes s is);
      waits = (c.take-result.ensures.step s is).waits;
      up = c.take-result.ensures.later;
      cause = λ fault. elim (take_is_fault c.args.txn.now c.take-result.result fault) [ inl read ↦ c.take-result.ensures.read read | inr disk ↦ c.take-result.ensures.fault disk ];
      still = c.take-result.ensures.well;
      quiet = λ none. c.take-result.ensures.quiet none;
      flushed = c.take-result.ensures.any_moment s is;
    } in
    (standing_on told told' f f' old new (Take c.args.txn.now c.take-result.result) _ c.self.invariant.0 (adds_did told told' f f' old new (Take c.args.txn.now c.take-result.result) did), still_checks told told' f f' old new (Take c.args.txn.now c.take-result.result) m.checks (g.met.D.Disk.reads_are_left m.logged.0) c.self.invariant.0 did c.self.invariant.1)

pub returns-clause-spent : goal.returns-clause-spent
returns-clause-spent g c =
    let m = c.self.inside in
    let told = g.D.Disk.told m.logged.0 in
    let told' = g.D.Disk.told c.take-result.new.self.0 in
    let f = g.D.Disk.faults m.logged.0 in
    let f' = g.D.Disk.faults c.take-result.new.self.0 in
    let old : FileState = record { logged = m.logged.1; tally = tally_of m.counts; waiting = length m.logged.1.log.bytes; checks = m.checks } in
    let new : FileState = record { logged = c.take-result.new.self.1; tally = tally_of c.note.new.counts; waiting = length c.take-result.new.self.1.log.bytes; checks = m.checks } in
    rw (← c.self.view_is) (shows_each told f old (λ s. s.broken ≡ false → IsSome (takes_of s c.args.txn.now) → WhereTold told (λ t. (c.take-result.result ≡ Err (TakeNo.Spent File)) ↔ IsSpentLog t s.rules.limits.max_file)) c.take-result.ensures.spent)

pub returns-clause-any_moment : goal.returns-clause-any_moment
returns-clause-any_moment g c =
    let m = c.self.inside in
    let told = g.D.Disk.told m.logged.0 in
    let told' = g.D.Disk.told c.take-result.new.self.0 in
    let f = g.D.Disk.faults m.logged.0 in
    let f' = g.D.Disk.faults c.take-result.new.self.0 in
    let old : FileState = record { logged = m.logged.1; tally = tally_of m.counts; waiting = length m.logged.1.log.bytes; checks = m.checks } in
    let new : FileState = record { logged = c.take-result.new.self.1; tally = tally_of c.note.new.counts; waiting = length c.take-result.new.self.1.log.bytes; checks = m.checks } in
    rw (← c.self.view_is) (shows_each told f old (λ s. flushes (Take c.args.txn.now c.take-result.result) ≡ true → Tells told told' (Flushed s)) c.take-result.ensures.any_moment)

pub returns-clause-room : goal.returns-clause-room
returns-clause-room g c =
    let m = c.self.inside in
    let told = g.D.Disk.told m.logged.0 in
    let told' = g.D.Disk.told c.take-result.new.self.0 in
    let f = g.D.Disk.faults m.logged.0 in
    let f' = g.D.Disk.faults c.take-result.new.self.0 in
    let old : FileState = record { logged = m.logged.1; tally = tally_of m.counts; waiting = length m.logged.1.log.bytes; checks = m.checks } in
    let new : FileState = record { logged = c.take-result.new.self.1; tally = tally_of c.note.new.counts; waiting = length c.take-result.new.self.1.log.bytes; checks = m.checks } in
    rw (← c.self.view_is) (shows_each told f old (λ s. IfOk c.take-result.result (λ done. (done.spilled ≡ true) ↔ IsSome done.event × HasNoRoom old.waiting (room_of s 17 (size_of_list (takes_of s c.args.txn.now))))) c.take-result.ensures.room)

pub returns-clause-full : goal.returns-clause-full
returns-clause-full g c =
    let m = c.self.inside in
    let told = g.D.Disk.told m.logged.0 in
    let told' = g.D.Disk.told c.take-result.new.self.0 in
    let f = g.D.Disk.faults m.logged.0 in
    let f' = g.D.Disk.faults c.take-result.new.self.0 in
    let old : FileState = record { logged = m.logged.1; tally = tally_of m.counts; waiting = length m.logged.1.log.bytes; checks = m.checks } in
    let new : FileState = record { logged = c.take-result.new.self.1; tally = tally_of c.note.new.counts; waiting = length c.take-result.new.self.1.log.bytes; checks = m.checks } in
    rw (← c.self.view_is) (shows_each told f old (λ s. IfOk c.take-result.result (λ done. done.spilled ≡ true → Tells told told' (HadNoRoom (room_of s 17 (size_of_list (takes_of s c.args.txn.now)))))) c.take-result.ensures.full)

pub returns-clause-no_room : goal.returns-clause-no_room
returns-clause-no_room g c =
    let m = c.self.inside in
    let told = g.D.Disk.told m.logged.0 in
    let told' = g.D.Disk.told c.take-result.new.self.0 in
    let f = g.D.Disk.faults m.logged.0 in
    let f' = g.D.Disk.faults c.take-result.new.self.0 in
    let old : FileState = record { logged = m.logged.1; tally = tally_of m.counts; waiting = length m.logged.1.log.bytes; checks = m.checks } in
    let new : FileState = record { logged = c.take-result.new.self.1; tally = tally_of c.note.new.counts; waiting = length c.take-result.new.self.1.log.bytes; checks = m.checks } in
    rw (← c.self.view_is) (shows_each told f old (λ s. IsErrOf c.take-result.result TakeNo.DiskFault → HasNoRoom old.waiting (room_of s 17 (size_of_list (takes_of s c.args.txn.now)))) c.take-result.ensures.no_room)

pub returns-clause-fills : goal.returns-clause-fills
returns-clause-fills g c =
    let m = c.self.inside in
    let told = g.D.Disk.told m.logged.0 in
    let told' = g.D.Disk.told c.take-result.new.self.0 in
    let f = g.D.Disk.faults m.logged.0 in
    let f' = g.D.Disk.faults c.take-result.new.self.0 in
    let old : FileState = record { logged = m.logged.1; tally = tally_of m.counts; waiting = length m.logged.1.log.bytes; checks = m.checks } in
    let new : FileState = record { logged = c.take-result.new.self.1; tally = tally_of c.note.new.counts; waiting = length c.take-result.new.self.1.log.bytes; checks = m.checks } in
    rw (← c.self.view_is) (shows_each told f old (λ s. flushes (Take c.args.txn.now c.take-result.result) ≡ true → Tells told told' (FillsFiles s.rules.limits.max_file old.waiting)) c.take-result.ensures.fills)
