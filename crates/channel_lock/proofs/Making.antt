-- What one lock with a call told.
use Rattle.std.proofs.Common.{◌≡◌, List, [], ◌∷◌, ◌++◌, true, append_assoc, refl, sym, ap, ◌∙◌, subst}
use Rattle.std.proofs.lemmas.List.{append-nil}
use mathlib.Core.List.{IsPrefix}
use Rattle.channel_face.specs.History.{Step}
use Rattle.channel_lock.specs.Views.{View, entered, idle, with_call, saw}
use Rattle.channel_lock.specs.Calls.{has, calls_by, Below}
use Rattle.channel_lock.specs.Turns.{Making, MadeInTurn}
use Rattle.channel_lock.proofs.Histories.{calls_by-own}

-- once the lock was taken no call was made yet
pub making_none : (v k : View) → k ≡ entered v k.seen → IsPrefix v.seen k.seen → calls_by v.numbers k.seen ≡ calls_by v.numbers v.seen → Below v.passes k.seen → Making v [] k
making_none v k knew begins calls below = (begins.0, knew, sym begins.1 ∙ sym (append-nil (v.seen ++ begins.0)), calls ∙ sym (append-nil (calls_by v.numbers v.seen)), below, refl)

-- one call more was made under the lock
pub making_more : (v k w : View) (es : List Step) (e : Step) → Making v es k → has v.numbers e.pass ≡ true → Below k.passes (k.seen ++ e ∷ []) → w ≡ with_call e k → Making v (es ++ e ∷ []) w
making_more v k w es e m own below new =
    let sn : w.seen ≡ k.seen ++ e ∷ [] = ap (λ (x : View). x.seen) new in (
      m.0,
      new ∙ ap (with_call e) m.1 ∙ ap (entered v) (sym sn),
      sn ∙ ap (λ l. l ++ e ∷ []) m.2 ∙ append_assoc (v.seen ++ m.0) es (e ∷ []),
      ap (calls_by v.numbers) sn ∙ calls_by-own v.numbers k.seen e own ∙ ap (λ l. l ++ e ∷ []) m.3 ∙ append_assoc (calls_by v.numbers v.seen) es (e ∷ []),
      subst (Below v.passes) (sym sn) (subst (λ p. Below p (k.seen ++ e ∷ [])) (ap (λ (x : View). x.passes) m.1) below),
      calls_by-own v.numbers es e own ∙ ap (λ l. l ++ e ∷ []) m.5,
    )

-- the lock was released after its calls
pub making_over : (v k w : View) (es : List Step) → Making v es k → w ≡ idle k → MadeInTurn v es w
making_over v k w es m new =
    let sn : w.seen ≡ k.seen = ap (λ (x : View). x.seen) new in
    (m.0, new ∙ ap idle m.1 ∙ ap (saw v) (sym sn), sn ∙ m.2, ap (calls_by v.numbers) sn ∙ m.3, subst (Below v.passes) (sym sn) m.4, m.5)
