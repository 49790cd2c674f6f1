use Rattle.std.proofs.Common.{length, ap, refl}
use Rattle.channel_face.specs.Machine.{State, BeginPut}
use Rattle.txn_core.specs.declared.calls.Call.TheVariants as notes
use Rattle.file_channel.specs.Placed.{IsStateOf}
use Rattle.file_channel.specs.Stands.{FileState}
use Rattle.txn_core.specs.Counted.{tally_of}
use Rattle.file_channel.proofs.Standing.{Did, adds_did, did_quietly, quiet_tally, standing_on, still_checks}
use Rattle.file_channel.proofs.channel.FileChannelChannel.begin_put.Goals as goal

pub returns-clause-step : goal.returns-clause-step
returns-clause-step g c =
    let m = c.self.inside in
    let told = g.D.Disk.told m.logged.0 in
    let told' = g.D.Disk.told c.begin_put-result.new.self.0 in
    let f = g.D.Disk.faults m.logged.0 in
    let f' = g.D.Disk.faults c.begin_put-result.new.self.0 in
    let old : FileState = record { logged = m.logged.1; tally = tally_of m.counts; waiting = length m.logged.1.log.bytes; checks = m.checks } in
    let new : FileState = record { logged = c.begin_put-result.new.self.1; tally = tally_of c.note.new.counts; waiting = length c.begin_put-result.new.self.1.log.bytes; checks = m.checks } in
    let did : (s : State) → IsStateOf told old.logged s → Did told told' f f' old new (BeginPut c.begin_put-result.result) s = λ s is. did_quietly told told' f f' old new (BeginPut c.begin_put-result.result) s (c.begin_put-result.ensures.step s is) (quiet_tally m.counts c.note.new.counts notes.BeginPut c.quiet-reply.result _ s (BeginPut c.begin_put-result.result) c.note.ensures.noted c.quiet-reply.ensures refl refl refl) refl refl (ap g.D.Disk.told c.begin_put-result.ensures.disk) (ap g.D.Disk.faults c.begin_put-result.ensures.disk) refl refl in
    rw (← c.self.view_is) (adds_did told told' f f' old new (BeginPut c.begin_put-result.result) did)

pub invariant_of-self : goal.invariant_of-self
invariant_of-self g c =
    let m = c.self.inside in
    let told = g.D.Disk.told m.logged.0 in
    let told' = g.D.Disk.told c.begin_put-result.new.self.0 in
    let f = g.D.Disk.faults m.logged.0 in
    let f' = g.D.Disk.faults c.begin_put-result.new.self.0 in
    let old : FileState = record { logged = m.logged.1; tally = tally_of m.counts; waiting = length m.logged.1.log.bytes; checks = m.checks } in
    let new : FileState = record { logged = c.begin_put-result.new.self.1; tally = tally_of c.note.new.counts; waiting = length c.begin_put-result.new.self.1.log.bytes; checks = m.checks } in
    let did : (s : State) → IsStateOf told old.logged s → Did told told' f f' old new (BeginPut c.begin_put-result.result) s = λ s is. did_quietly told told' f f' old new (BeginPut c.begin_put-result.result) s (c.begin_put-result.ensures.step s is) (quiet_tally m.counts c.note.new.counts notes.BeginPut c.quiet-reply.result _ s (BeginPut c.begin_put-result.result) c.note.ensures.noted c.quiet-reply.ensures refl refl refl) refl refl (ap g.D.Disk.told c.begin_put-result.ensures.disk) (ap g.D.Disk.faults c.begin_put-result.ensures.disk) refl refl in
    (standing_on told told' f f' old new (BeginPut c.begin_put-result.result) _ c.self.invariant.0 (adds_did told told' f f' old new (BeginPut c.begin_put-result.result) did), still_checks told told' f f' old new (BeginPut c.begin_put-result.result) m.checks (g.met.D.Disk.reads_are_left m.logged.0) c.self.invariant.0 did c.self.invariant.1)
