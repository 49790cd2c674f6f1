use Rattle.std.proofs.Common.{length, refl, ap}
use Rattle.channel_face.specs.Machine.{State, Prune}
use Rattle.txn_core.specs.Counted.{tally_of}
use Rattle.txn_core.specs.declared.calls.Call.TheVariants as notes
use Rattle.file_channel.specs.Placed.{IsStateOf}
use Rattle.file_channel.specs.Stands.{FileState}
use Rattle.file_channel.proofs.Dropping.{prune_fault, prune_touched}
use Rattle.file_channel.proofs.Standing.{DidSo, adds_did_so, quiet_tally, standing_on}
use Rattle.file_channel.proofs.channel.FileChannel.prune.Goals as goal

pub returns-clause-step : goal.returns-clause-step
returns-clause-step g c =
    let m = c.self.inside in
    let r = c.prune-result.result in
    let e = c.prune-result.ensures in
    let told = g.D.Disk.told m.logged.0 in
    let told' = g.D.Disk.told c.prune-result.new.self.0 in
    let f = g.D.Disk.faults m.logged.0 in
    let f' = g.D.Disk.faults c.prune-result.new.self.0 in
    let old : FileState = record { logged = m.logged.1; tally = tally_of m.counts; waiting = length m.logged.1.log.bytes; checks = m.checks } in
    let new : FileState = record { logged = c.prune-result.new.self.1; tally = tally_of c.note.new.counts; waiting = length c.prune-result.new.self.1.log.bytes; checks = m.checks } in
    let did : (s : State) → IsStateOf told old.logged s → DidSo told told' f f' old new (Prune r) s = λ s is. record {
      steps = e.step s is;
      tally = quiet_tally m.counts c.note.new.counts notes.Prune c.quiet-reply.result _ s (Prune r) c.note.ensures.noted c.quiet-reply.ensures refl refl refl;
      waits = (e.step s is).waits;
      up = e.later;
      cause = λ fault. e.fault (prune_fault r fault);
      still = e.well;
      touched = prune_touched told told' old.logged new.logged s r (e.step s is) (λ broken. ap g.D.Disk.told (e.broken broken)) (e.any_moment s is);
    } in
    rw (← c.self.view_is) (adds_did_so told told' f f' old new (Prune r) did)

pub invariant_of-self : goal.invariant_of-self
invariant_of-self g c =
    let m = c.self.inside in
    let r = c.prune-result.result in
    let e = c.prune-result.ensures in
    let told = g.D.Disk.told m.logged.0 in
    let told' = g.D.Disk.told c.prune-result.new.self.0 in
    let f = g.D.Disk.faults m.logged.0 in
    let f' = g.D.Disk.faults c.prune-result.new.self.0 in
    let old : FileState = record { logged = m.logged.1; tally = tally_of m.counts; waiting = length m.logged.1.log.bytes; checks = m.checks } in
    let new : FileState = record { logged = c.prune-result.new.self.1; tally = tally_of c.note.new.counts; waiting = length c.prune-result.new.self.1.log.bytes; checks = m.checks } in
    let did : (s : State) → IsStateOf told old.logged s → DidSo told told' f f' old new (Prune r) s = λ s is. record {
      steps = e.step s is;
      tally = quiet_tally m.counts c.note.new.counts notes.Prune c.quiet-reply.result _ s (Prune r) c.note.ensures.noted c.quiet-reply.ensures refl refl refl;
      waits = (e.step s is).waits;
      up = e.later;
      cause = λ fault. e.fault (prune_fault r fault);
      still = e.well;
      touched = prune_touched told told' old.logged new.logged s r (e.step s is) (λ broken. ap g.D.Disk.told (e.broken broken)) (e.any_moment s is);
    } in
    (standing_on told told' f f' old new (Prune r) _ c.self.invariant.0 (adds_did_so told told' f f' old new (Prune r) did), e.checks)
