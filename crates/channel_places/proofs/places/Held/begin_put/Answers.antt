use Rattle.std.proofs.Common.{◌≡◌, ◌∙◌, ap, subst, sym}
use Rattle.channel_places.specs.Looks.{Looks, Numbers, Places}
use Rattle.channel_places.proofs.places.Held.begin_put.Goals.{in-Ok, in-Err}
use Rattle.channel_places.proofs.places.Held.begin_put.Goals as goal

pub returns-clause-step : goal.returns-clause-step
returns-clause-step c = λ settled known s looks.
    let allowed = sym (c.begin_refusal.ensures.refusal settled known s looks) ∙ c.in_default.is in
    elim c.match-add_open.branch [
      | in-Ok w ↦
          let made = w.in-Ok.ensures.ok settled known s looks in
          let life : c.self-2.inside.life ≡ s.life = ap (λ (p : Places). p.numbers.life) c.self-2.view_is ∙ ap (λ (n : Numbers). n.life) made.numbers in
          let txn : c.self.inside.txn ≡ s.txn = ap (λ (p : Places). p.numbers.txn) c.self.view_is ∙ ap (λ (n : Numbers). n.txn) looks.numbers in
          rw w.result-is ((allowed, w.new.ensures ∙ (λ i. record { life = life i; number = txn i })), made)
      | in-Err w ↦ rw w.result-is (allowed, subst (λ (p : Places). Looks settled known p s) (sym w.in-Err.ensures.err) looks)
    ]
