use Rattle.std.proofs.Common.{rules, ◌≡◌, ◌∙◌, [], ◌∷◌, ◌+◌, ℕ, List, length, true, false, sym, refl, ap, drop}
use Rattle.std.proofs.lemmas.Option.{slice_get_read}
use Rattle.event_core.specs.declared.journal.Entry.{Entry}
use Rattle.event_core.specs.Journal.{taken_numbers, is_among}
use Rattle.channel_face.specs.Machine.{entries}
use Rattle.channel_replay.proofs.Numbers.{among_here, among_later, drop_at}
use Rattle.channel_replay.proofs.open.is_held.Goals as goal

pub returns-then-takes_one : goal.returns-then-takes_one
returns-then-takes_one c =
    let es = c.args.opened.now in
    let i = c.loop-open.open-index in
    let e = c.open-item.result in
    let seam : drop i es ≡ e ∷ drop (i + 1) es = drop_at es i e (slice_get_read es (length es) i e refl c.loop-open-test.true c.open-item.is) in
    let here : is_among (taken_numbers (e.1 ∷ [])) c.args.number ≡ true = search rules in
    sym (c.loop-open.invariant ∙ (ap (λ (l : List (ℕ × Entry)). is_among (taken_numbers (entries l)) c.args.number) seam ∙ among_here e.1 (entries (drop (i + 1) es)) c.args.number here))

pub loop-open-preserved : goal.loop-open-preserved
loop-open-preserved c =
    let es = c.args.opened.now in
    let i = c.loop-open.open-index in
    let e = c.open-item.result in
    let seam : drop i es ≡ e ∷ drop (i + 1) es = drop_at es i e (slice_get_read es (length es) i e refl c.loop-open-test.true c.open-item.is) in
    let here : is_among (taken_numbers (e.1 ∷ [])) c.args.number ≡ false = search rules in
    c.loop-open.invariant ∙ (ap (λ (l : List (ℕ × Entry)). is_among (taken_numbers (entries l)) c.args.number) seam ∙ among_later e.1 (entries (drop (i + 1) es)) c.args.number here)
