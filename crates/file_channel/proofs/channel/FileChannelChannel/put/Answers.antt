use Rattle.std.proofs.Common.{◌≡◌, length, Err, false, true}
use Rattle.channel_face.specs.Machine.{State, Put, puts_of, size_of_list}
use Rattle.std.specs.Prelude.{◌↔◌, ◌+◌, IfOk, IsErrOf, IsSome}
use Rattle.flume_host.specs.Told.{Tells, WhereTold}
use Rattle.event_core.specs.Content.{size}
use Rattle.channel_face.specs.declared.replies.Counter.TheVariants.{File}
use Rattle.channel_face.specs.declared.replies.PutRefused.TheVariants as PutNo
use Rattle.channel_writing.specs.Touches.{FillsFiles, Flushed, HadNoRoom, HasNoRoom, IsSpentLog, flushes, room_of}
use Rattle.channel_writing.proofs.Standing.{put_fault}
use Rattle.file_channel.specs.Placed.{IsStateOf}
use Rattle.file_channel.specs.Stands.{FileState}
use Rattle.txn_core.specs.Counted.{tally_of}
use Rattle.file_channel.proofs.Standing.{Did, adds_did, shows_each, standing_on, still_checks, put_tally}
use Rattle.file_channel.proofs.channel.FileChannelChannel.put.Goals as goal

pub returns-clause-step : goal.returns-clause-step
returns-clause-step g c =
    let m = c.self.inside in
    let told = g.D.Disk.told m.logged.0 in
    let told' = g.D.Disk.told c.put-result.new.self.0 in
    let f = g.D.Disk.faults m.logged.0 in
    let f' = g.D.Disk.faults c.put-result.new.self.0 in
    let old : FileState = record { logged = m.logged.1; tally = tally_of m.counts; waiting = length m.logged.1.log.bytes; checks = m.checks } in
    let new : FileState = record { logged = c.put-result.new.self.1; tally = tally_of c.note.new.counts; waiting = length c.put-result.new.self.1.log.bytes; checks = m.checks } in
    let did : (s : State) → IsStateOf told old.logged s → Did told told' f f' old new (Put c.args.txn.now c.args.event.now c.put-result.result) s = λ s is. record {
      steps = c.put-result.ensures.step s is;
      tally = put_tally m.counts c.note.new.counts c.put_reply-reply.result c.staged-staged.result.0 c.staged-staged.result.1 s c.args.txn.now c.args.event.now c.put-result.result c.note.ensures.noted c.put_reply-reply.ensures.puts c.put_reply-reply.ensures.takes (c.staged-staged.ensures.puts s is) (c.staged-staged.ensures.takes s is);
      waits = (c.put-result.ensures.step s is).waits;
      up = c.put-result.ensures.later;
      cause = λ fault. c.put-result.ensures.fault (put_fault c.args.txn.now c.args.event.now c.put-result.result fault);
      still = c.put-result.ensures.well;
      quiet = λ none. c.put-result.ensures.quiet none;
      flushed = c.put-result.ensures.any_moment s is;
    } in
    rw (← c.self.view_is) (adds_did told told' f f' old new (Put c.args.txn.now c.args.event.now c.put-result.result) did)

pub invariant_of-self : goal.invariant_of-self
invariant_of-self g c =
    let m = c.self.inside in
    let told = g.D.Disk.told m.logged.0 in
    let told' = g.D.Disk.told c.put-result.new.self.0 in
    let f = g.D.Disk.faults m.logged.0 in
    let f' = g.D.Disk.faults c.put-result.new.self.0 in
    let old : FileState = record { logged = m.logged.1; tally = tally_of m.counts; waiting = length m.logged.1.log.bytes; checks = m.checks } in
    let new : FileState = record { logged = c.put-result.new.self.1; tally = tally_of c.note.new.counts; waiting = length c.put-result.new.self.1.log.bytes; checks = m.checks } in
    let did : (s : State) → IsStateOf told old.logged s → Did told told' f f' old new (Put c.args.txn.now c.args.event.now c.put-result.result) s = λ s is. record {
      steps = c.put-result.ensures.step s is;
      tally = put_tally m.counts c.note.new.counts c.put_reply-reply.result c.staged-staged.result.0 c.staged-staged.result.1 s c.args.txn.now c.args.event.now c.put-result.result c.note.ensures.noted c.put_reply-reply.ensures.puts c.put_reply-reply.ensures.takes (c.staged-staged.ensures.puts s is) (c.staged-staged.ensures.takes s is);
      waits = (c.put-result.ensures.step s is).waits;
      up = c.put-result.ensures.later;
      cause = λ fault. c.put-result.ensures.fault (put_fault c.args.txn.now c.args.event.now c.put-result.result fault);
      still = c.put-result.ensures.well;
      quiet = λ none. c.put-result.ensures.quiet none;
      flushed = c.put-result.ensures.any_moment s is;
    } in
    (standing_on told told' f f' old new (Put c.args.txn.now c.args.event.now c.put-result.result) _ c.self.invariant.0 (adds_did told told' f f' old new (Put c.args.txn.now c.args.event.now c.put-result.result) did), still_checks told told' f f' old new (Put c.args.txn.now c.args.event.now c.put-result.result) m.checks (g.met.D.Disk.reads_are_left m.logged.0) c.self.invariant.0 did c.self.invariant.1)

pub returns-clause-spent : goal.returns-clause-spent
returns-clause-spent g c =
    let m = c.self.inside in
    let told = g.D.Disk.told m.logged.0 in
    let told' = g.D.Disk.told c.put-result.new.self.0 in
    let f = g.D.Disk.faults m.logged.0 in
    let f' = g.D.Disk.faults c.put-result.new.self.0 in
    let old : FileState = record { logged = m.logged.1; tally = tally_of m.counts; waiting = length m.logged.1.log.bytes; checks = m.checks } in
    let new : FileState = record { logged = c.put-result.new.self.1; tally = tally_of c.note.new.counts; waiting = length c.put-result.new.self.1.log.bytes; checks = m.checks } in
    rw (← c.self.view_is) (shows_each told f old (λ s. s.broken ≡ false → IsSome (puts_of s c.args.txn.now) → WhereTold told (λ t. (c.put-result.result ≡ Err (PutNo.Spent File)) ↔ IsSpentLog t s.rules.limits.max_file)) c.put-result.ensures.spent)

pub returns-clause-any_moment : goal.returns-clause-any_moment
returns-clause-any_moment g c =
    let m = c.self.inside in
    let told = g.D.Disk.told m.logged.0 in
    let told' = g.D.Disk.told c.put-result.new.self.0 in
    let f = g.D.Disk.faults m.logged.0 in
    let f' = g.D.Disk.faults c.put-result.new.self.0 in
    let old : FileState = record { logged = m.logged.1; tally = tally_of m.counts; waiting = length m.logged.1.log.bytes; checks = m.checks } in
    let new : FileState = record { logged = c.put-result.new.self.1; tally = tally_of c.note.new.counts; waiting = length c.put-result.new.self.1.log.bytes; checks = m.checks } in
    rw (← c.self.view_is) (shows_each told f old (λ s. flushes (Put c.args.txn.now c.args.event.now c.put-result.result) ≡ true → Tells told told' (Flushed s)) c.put-result.ensures.any_moment)

pub returns-clause-room : goal.returns-clause-room
returns-clause-room g c =
    let m = c.self.inside in
    let told = g.D.Disk.told m.logged.0 in
    let told' = g.D.Disk.told c.put-result.new.self.0 in
    let f = g.D.Disk.faults m.logged.0 in
    let f' = g.D.Disk.faults c.put-result.new.self.0 in
    let old : FileState = record { logged = m.logged.1; tally = tally_of m.counts; waiting = length m.logged.1.log.bytes; checks = m.checks } in
    let new : FileState = record { logged = c.put-result.new.self.1; tally = tally_of c.note.new.counts; waiting = length c.put-result.new.self.1.log.bytes; checks = m.checks } in
    rw (← c.self.view_is) (shows_each told f old (λ s. IfOk c.put-result.result (λ done. (done.spilled ≡ true) ↔ HasNoRoom old.waiting (room_of s (size c.args.event.now + 13) (size_of_list (puts_of s c.args.txn.now))))) c.put-result.ensures.room)

pub returns-clause-full : goal.returns-clause-full
returns-clause-full g c =
    let m = c.self.inside in
    let told = g.D.Disk.told m.logged.0 in
    let told' = g.D.Disk.told c.put-result.new.self.0 in
    let f = g.D.Disk.faults m.logged.0 in
    let f' = g.D.Disk.faults c.put-result.new.self.0 in
    let old : FileState = record { logged = m.logged.1; tally = tally_of m.counts; waiting = length m.logged.1.log.bytes; checks = m.checks } in
    let new : FileState = record { logged = c.put-result.new.self.1; tally = tally_of c.note.new.counts; waiting = length c.put-result.new.self.1.log.bytes; checks = m.checks } in
    rw (← c.self.view_is) (shows_each told f old (λ s. IfOk c.put-result.result (λ done. done.spilled ≡ true → Tells told told' (HadNoRoom (room_of s (size c.args.event.now + 13) (size_of_list (puts_of s c.args.txn.now)))))) c.put-result.ensures.full)

pub returns-clause-no_room : goal.returns-clause-no_room
returns-clause-no_room g c =
    let m = c.self.inside in
    let told = g.D.Disk.told m.logged.0 in
    let told' = g.D.Disk.told c.put-result.new.self.0 in
    let f = g.D.Disk.faults m.logged.0 in
    let f' = g.D.Disk.faults c.put-result.new.self.0 in
    let old : FileState = record { logged = m.logged.1; tally = tally_of m.counts; waiting = length m.logged.1.log.bytes; checks = m.checks } in
    let new : FileState = record { logged = c.put-result.new.self.1; tally = tally_of c.note.new.counts; waiting = length c.put-result.new.self.1.log.bytes; checks = m.checks } in
    rw (← c.self.view_is) (shows_each told f old (λ s. IsErrOf c.put-result.result PutNo.DiskFault → HasNoRoom old.waiting (room_of s (size c.args.event.now + 13) (size_of_list (puts_of s c.args.txn.now)))) c.put-result.ensures.no_room)

pub returns-clause-fills : goal.returns-clause-fills
returns-clause-fills g c =
    let m = c.self.inside in
    let told = g.D.Disk.told m.logged.0 in
    let told' = g.D.Disk.told c.put-result.new.self.0 in
    let f = g.D.Disk.faults m.logged.0 in
    let f' = g.D.Disk.faults c.put-result.new.self.0 in
    let old : FileState = record { logged = m.logged.1; tally = tally_of m.counts; waiting = length m.logged.1.log.bytes; checks = m.checks } in
    let new : FileState = record { logged = c.put-result.new.self.1; tally = tally_of c.note.new.counts; waiting = length c.put-result.new.self.1.log.bytes; checks = m.checks } in
    rw (← c.self.view_is) (shows_each told f old (λ s. flushes (Put c.args.txn.now c.args.event.now c.put-result.result) ≡ true → Tells told told' (FillsFiles s.rules.limits.max_file old.waiting)) c.put-result.ensures.fills)
