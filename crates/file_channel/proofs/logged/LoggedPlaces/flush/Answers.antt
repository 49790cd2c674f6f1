use Rattle.std.proofs.Common.{rules, ◌≡◌, ◌∙◌, Err, Ok, false, sym}
use Rattle.channel_face.specs.Machine.{State, Flush, after}
use Rattle.channel_face.specs.declared.replies.FlushRefused.TheVariants as FlushNo
use Rattle.file_channel.specs.Placed.{Logged}
use Rattle.file_channel.proofs.Calls.{flush_faults, flush_steps}
use Rattle.file_channel.proofs.Stepping.{same_broken}
use Rattle.file_channel.proofs.logged.LoggedPlaces.flush.Goals as goal

pub invariant_of-self : goal.invariant_of-self
invariant_of-self g c =
    let m = c.self.inside in
    let told = g.D.Disk.told m.writing.disk in
    let told' = g.D.Disk.told c.settle_staged.new.writing.disk in
    let old : Logged = record { places = m.held; log = m.writing.log; busy = m.writing.busy } in
    let new : Logged = record { places = c.settle_staged.new.held; log = c.settle_staged.new.writing.log; busy = c.settle_staged.new.writing.busy } in
    let whole : m.held.numbers.broken ≡ false = search rules in
    let s : State = c.self.invariant.0 in
    let is = c.self.invariant.1 in
    let still : s.broken ≡ false = sym (same_broken is.settled is.known m.held s is.looks) ∙ whole in
    (after s (Flush (Err FlushNo.DiskFault)), (flush_faults told told' old new s is still (c.in-Err.ensures.failed s is still) c.in-Err.ensures.refused).stands)

pub returns-in-Err-clause-step : goal.returns-in-Err-clause-step
returns-in-Err-clause-step g c = rw (← c.self.view_is) (λ s is.
    let m = c.self.inside in
    let told = g.D.Disk.told m.writing.disk in
    let told' = g.D.Disk.told c.settle_staged.new.writing.disk in
    let old : Logged = record { places = m.held; log = m.writing.log; busy = m.writing.busy } in
    let new : Logged = record { places = c.settle_staged.new.held; log = c.settle_staged.new.writing.log; busy = c.settle_staged.new.writing.busy } in
    let whole : m.held.numbers.broken ≡ false = search rules in
    let still : s.broken ≡ false = sym (same_broken is.settled is.known m.held s is.looks) ∙ whole in
    flush_faults told told' old new s is still (c.in-Err.ensures.failed s is still) c.in-Err.ensures.refused)

pub invariant_of-self-2 : goal.invariant_of-self-2
invariant_of-self-2 g c =
    let m = c.self.inside in
    let told = g.D.Disk.told m.writing.disk in
    let told' = g.D.Disk.told c.settle_staged.new.writing.disk in
    let old : Logged = record { places = m.held; log = m.writing.log; busy = m.writing.busy } in
    let new : Logged = record { places = c.settle_staged.new.held; log = c.settle_staged.new.writing.log; busy = c.settle_staged.new.writing.busy } in
    let whole : m.held.numbers.broken ≡ false = search rules in
    let s : State = c.self.invariant.0 in
    let is = c.self.invariant.1 in
    let still : s.broken ≡ false = sym (same_broken is.settled is.known m.held s is.looks) ∙ whole in
    (after s (Flush (Ok tt)), (flush_steps told told' old new s is still (c.in-Ok.ensures.fits s is still) c.in-Ok.ensures.empty).stands)

pub returns-clause-step : goal.returns-clause-step
returns-clause-step g c = rw (← c.self.view_is) (λ s is.
    let m = c.self.inside in
    let told = g.D.Disk.told m.writing.disk in
    let told' = g.D.Disk.told c.settle_staged.new.writing.disk in
    let old : Logged = record { places = m.held; log = m.writing.log; busy = m.writing.busy } in
    let new : Logged = record { places = c.settle_staged.new.held; log = c.settle_staged.new.writing.log; busy = c.settle_staged.new.writing.busy } in
    let whole : m.held.numbers.broken ≡ false = search rules in
    let still : s.broken ≡ false = sym (same_broken is.settled is.known m.held s is.looks) ∙ whole in
    flush_steps told told' old new s is still (c.in-Ok.ensures.fits s is still) c.in-Ok.ensures.empty)
