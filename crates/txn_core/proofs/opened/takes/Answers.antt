use Rattle.std.proofs.Common.{rules, ◌≡◌, ◌∙◌, ◌∷◌, ◌+◌, ℕ, List, length, true, false, sym, refl, ap, drop}
use Rattle.std.proofs.lemmas.Option.{slice_get_read}
use Rattle.event_core.specs.declared.journal.Entry.{Entry}
use Rattle.event_core.specs.Journal.{taken_numbers, is_among}
use Rattle.channel_face.specs.Machine.{entries}
use Rattle.txn_core.specs.Sound.{takes_in}
use Rattle.txn_core.proofs.Taken.{among_here, among_later, drop_at}
use Rattle.txn_core.proofs.opened.takes.Goals as goal

pub returns-then-takes_number : goal.returns-then-takes_number
returns-then-takes_number c =
    let os = c.args.opened.now in
    let i = c.loop-open.open-index in
    let o = c.open-item.result in
    let seam : drop i os ≡ o ∷ drop (i + 1) os = drop_at os i o (slice_get_read os (length os) i o refl c.loop-open-test.true c.open-item.is) in
    let here : is_among (takes_in o.1) c.args.number ≡ true = search rules in
    sym (c.loop-open.invariant ∙ (ap (λ (l : List (ℕ × Entry)). is_among (taken_numbers (entries l)) c.args.number) seam ∙ among_here o (drop (i + 1) os) c.args.number here))

pub loop-open-preserved : goal.loop-open-preserved
loop-open-preserved c =
    let os = c.args.opened.now in
    let i = c.loop-open.open-index in
    let o = c.open-item.result in
    let seam : drop i os ≡ o ∷ drop (i + 1) os = drop_at os i o (slice_get_read os (length os) i o refl c.loop-open-test.true c.open-item.is) in
    let here : is_among (takes_in o.1) c.args.number ≡ false = search rules in
    c.loop-open.invariant ∙ (ap (λ (l : List (ℕ × Entry)). is_among (taken_numbers (entries l)) c.args.number) seam ∙ among_later o (drop (i + 1) os) c.args.number here)
