use Rattle.std.proofs.Common.{◌≡◌, length, true, ap}
use Rattle.channel_face.specs.Machine.{State, Flush}
use Rattle.flume_host.specs.Told.{Tells}
use Rattle.channel_writing.specs.Touches.{FillsFiles, Flushed, flushes}
use Rattle.channel_writing.proofs.Standing.{flush_fault}
use Rattle.file_channel.specs.Placed.{IsStateOf}
use Rattle.file_channel.specs.Stands.{FileState}
use Rattle.txn_core.specs.Counted.{tally_of}
use Rattle.file_channel.proofs.Standing.{Did, adds_did, shows_each, standing_on, still_checks, flush_tally}
use Rattle.file_channel.proofs.channel.FileChannelChannel.flush.Goals as goal

pub returns-clause-step : goal.returns-clause-step
returns-clause-step g c =
    let m = c.self.inside in
    let told = g.D.Disk.told m.logged.0 in
    let told' = g.D.Disk.told c.flush-result.new.self.0 in
    let f = g.D.Disk.faults m.logged.0 in
    let f' = g.D.Disk.faults c.flush-result.new.self.0 in
    let old : FileState = record { logged = m.logged.1; tally = tally_of m.counts; waiting = length m.logged.1.log.bytes; checks = m.checks } in
    let new : FileState = record { logged = c.flush-result.new.self.1; tally = tally_of c.note.new.counts; waiting = length c.flush-result.new.self.1.log.bytes; checks = m.checks } in
    let did : (s : State) → IsStateOf told old.logged s → Did told told' f f' old new (Flush c.flush-result.result) s = λ s is. record {
      steps = c.flush-result.ensures.step s is;
      tally = flush_tally m.counts c.note.new.counts c.flush_reply-reply.result c.staged-staged.result.0 c.staged-staged.result.1 s c.flush-result.result c.note.ensures.noted c.flush_reply-reply.ensures.puts c.flush_reply-reply.ensures.takes (c.staged-staged.ensures.puts s is) (c.staged-staged.ensures.takes s is);
      waits = (c.flush-result.ensures.step s is).waits;
      up = c.flush-result.ensures.later;
      cause = λ fault. c.flush-result.ensures.fault (flush_fault c.flush-result.result fault);
      still = c.flush-result.ensures.well;
      quiet = λ none. ap g.D.Disk.told (c.flush-result.ensures.quiet none);
      flushed = c.flush-result.ensures.any_moment s is;
    } in
    rw (← c.self.view_is) (adds_did told told' f f' old new (Flush c.flush-result.result) did)

pub invariant_of-self : goal.invariant_of-self
invariant_of-self g c =
    let m = c.self.inside in
    let told = g.D.Disk.told m.logged.0 in
    let told' = g.D.Disk.told c.flush-result.new.self.0 in
    let f = g.D.Disk.faults m.logged.0 in
    let f' = g.D.Disk.faults c.flush-result.new.self.0 in
    let old : FileState = record { logged = m.logged.1; tally = tally_of m.counts; waiting = length m.logged.1.log.bytes; checks = m.checks } in
    let new : FileState = record { logged = c.flush-result.new.self.1; tally = tally_of c.note.new.counts; waiting = length c.flush-result.new.self.1.log.bytes; checks = m.checks } in
    let did : (s : State) → IsStateOf told old.logged s → Did told told' f f' old new (Flush c.flush-result.result) s = λ s is. record {
      steps = c.flush-result.ensures.step s is;
      tally = flush_tally m.counts c.note.new.counts c.flush_reply-reply.result c.staged-staged.result.0 c.staged-staged.result.1 s c.flush-result.result c.note.ensures.noted c.flush_reply-reply.ensures.puts c.flush_reply-reply.ensures.takes (c.staged-staged.ensures.puts s is) (c.staged-staged.ensures.takes s is);
      waits = (c.flush-result.ensures.step s is).waits;
      up = c.flush-result.ensures.later;
      cause = λ fault. c.flush-result.ensures.fault (flush_fault c.flush-result.result fault);
      still = c.flush-result.ensures.well;
      quiet = λ none. ap g.D.Disk.told (c.flush-result.ensures.quiet none);
      flushed = c.flush-result.ensures.any_moment s is;
    } in
    (standing_on told told' f f' old new (Flush c.flush-result.result) _ c.self.invariant.0 (adds_did told told' f f' old new (Flush c.flush-result.result) did), still_checks told told' f f' old new (Flush c.flush-result.result) m.checks (g.met.D.Disk.reads_are_left m.logged.0) c.self.invariant.0 did c.self.invariant.1)

pub returns-clause-any_moment : goal.returns-clause-any_moment
returns-clause-any_moment g c =
    let m = c.self.inside in
    let told = g.D.Disk.told m.logged.0 in
    let told' = g.D.Disk.told c.flush-result.new.self.0 in
    let f = g.D.Disk.faults m.logged.0 in
    let f' = g.D.Disk.faults c.flush-result.new.self.0 in
    let old : FileState = record { logged = m.logged.1; tally = tally_of m.counts; waiting = length m.logged.1.log.bytes; checks = m.checks } in
    let new : FileState = record { logged = c.flush-result.new.self.1; tally = tally_of c.note.new.counts; waiting = length c.flush-result.new.self.1.log.bytes; checks = m.checks } in
    rw (← c.self.view_is) (shows_each told f old (λ s. flushes (Flush c.flush-result.result) ≡ true → Tells told told' (Flushed s)) c.flush-result.ensures.any_moment)

pub returns-clause-fills : goal.returns-clause-fills
returns-clause-fills g c =
    let m = c.self.inside in
    let told = g.D.Disk.told m.logged.0 in
    let told' = g.D.Disk.told c.flush-result.new.self.0 in
    let f = g.D.Disk.faults m.logged.0 in
    let f' = g.D.Disk.faults c.flush-result.new.self.0 in
    let old : FileState = record { logged = m.logged.1; tally = tally_of m.counts; waiting = length m.logged.1.log.bytes; checks = m.checks } in
    let new : FileState = record { logged = c.flush-result.new.self.1; tally = tally_of c.note.new.counts; waiting = length c.flush-result.new.self.1.log.bytes; checks = m.checks } in
    rw (← c.self.view_is) (shows_each told f old (λ s. flushes (Flush c.flush-result.result) ≡ true → Tells told told' (FillsFiles s.rules.limits.max_file old.waiting)) c.flush-result.ensures.fills)
