use Rattle.std.proofs.Common.{◌≡◌, ◌<◌, ◌++◌, ◌∷◌, [], length, take, get_or, arith, sym, ap, ◌∙◌}
use Rattle.std.proofs.lemmas.List.{take_more}
use Rattle.std.proofs.lemmas.Option.{get_or_from_slice_get}
use Rattle.event_core.proofs.journal.Batch.copy.Goals as goal

pub loop-at-preserved : goal.loop-at-preserved
loop-at-preserved c =
    let i = c.loop-at.at in
    let all = c.args.self.now in
    let event = c.get.result.now in
    let within : i < length all = omega arith in
    let same : get_or all i event ≡ c.in_ok-event.event = get_or_from_slice_get all i event event c.get.ensures ∙ sym c.in_ok-event.ensures in
    c.in_ok-push_back.ensures.items
    ∙ ap (λ es. es ++ c.in_ok-event.event ∷ []) c.loop-at.invariant
    ∙ ap (λ e. take i all ++ e ∷ []) (sym same)
    ∙ sym (take_more all i event within)
