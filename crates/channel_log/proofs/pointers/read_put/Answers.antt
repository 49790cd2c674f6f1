use Rattle.std.proofs.Common.{◌∙◌, arith, refl, sym}
use Rattle.record_form.proofs.Pointed.{front}
use Rattle.channel_log.proofs.Pointed.{found_back, seen_greatest, seen_uncut, uncut, uncut_kept}
use Rattle.channel_log.proofs.pointers.read_put.Goals as goal

pub returns-then-not-is_cut-clause-found : goal.returns-then-not-is_cut-clause-found
returns-then-not-is_cut-clause-found g c = λ t is bytes has.
    let p = c.args.p.now in
    let there = c.deref-then-not-is_cut.ensures.value ∙ c.in_ok-block.ensures.read t is bytes has in
    found_back bytes c.deref-then-not-is_cut.result.now c.put_length.result p c.event_in.result there
    (seen_uncut bytes c.deref-then-not-is_cut.result.now c.put_length.result p there (uncut_kept c.deref.result.now _ (c.deref.ensures.value ∙ sym c.deref-then-not-is_cut.ensures.value) (uncut c.is_cut.result c.if-not-is_cut.true c.is_cut.ensures)))
    (c.event_in.ensures.found (front p) refl refl)

pub returns-clause-found : goal.returns-clause-found
returns-clause-found g c = λ t is bytes has.
    let p = c.args.p.now in
    let there = c.deref-2.ensures.value ∙ c.in_ok-whole.ensures.read t (c.in_ok-block.ensures.same ∙ is) bytes has in
    found_back bytes c.deref-2.result.now 1_048_589 p c.event_in-2.result there
    (seen_greatest bytes c.deref-2.result.now 1_048_589 p there (omega arith))
    (c.event_in-2.ensures.found (front p) refl refl)
