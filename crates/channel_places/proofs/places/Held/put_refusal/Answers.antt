use Rattle.std.proofs.Common.{◌≡◌, ◌∙◌, ◌+◌, ap, arith, sym, subst, Some}
use Rattle.channel_face.specs.Machine.{count}
use Rattle.channel_face.specs.declared.replies.PutRefused.TheVariants.{Full}
use Rattle.channel_places.specs.Looks.{Looks, Numbers, Places}
use Rattle.channel_places.specs.View.{places_of}
use Rattle.channel_places.proofs.Looking.{count_is}
use Rattle.channel_places.proofs.Putting.{refuses_full, refuses_none}
use Rattle.channel_places.proofs.places.Held.put_refusal.Goals as goal

pub overflow_add-count : goal.overflow_add-count
overflow_add-count c = omega (arith, c.self.invariant.within, c.self.invariant.few, c.len.ensures)

pub overflow_add-count-2 : goal.overflow_add-count-2
overflow_add-count-2 c = omega (arith, c.self.invariant.within, c.self.invariant.few, c.self.invariant.staged_puts_are, c.len.ensures)

pub returns-then-count-self-clause-refusal : goal.returns-then-count-self-clause-refusal
returns-then-count-self-clause-refusal c = λ settled known s event looks size.
    let p : Places = places_of c.self.inside in
    let here : Looks settled known p s = subst (λ (q : Places). Looks settled known q s) (sym c.self.view_is) looks in
    let found = c.in-Some.ensures.found settled known s looks in
    let same : c.len.result + c.self.inside.open_puts + c.self.inside.staged_puts ≡ count s =
    omega (arith, c.len.ensures, c.self.invariant.staged_puts_are, count_is settled known p s here) in
    ap (λ n. Some (Full n)) same
    ∙ sym (refuses_full s _ found.0 event found.1 (sym (ap (λ (n : Numbers). n.rules.kind) here.numbers)) (sym (ap (λ (n : Numbers). n.broken) here.numbers) ∙ c.if-self.false)
    (omega (arith, found.2, c.if-held-self.false, ap (λ (n : Numbers). n.rules.limits.txn_capacity) here.numbers))
    (omega (arith, size, c.if-size-gt-MAX_KEPT_SIZE.false))
    (omega (arith, same, c.if-count-self.true, ap (λ (n : Numbers). n.rules.limits.capacity) here.numbers)))

pub returns-clause-refusal : goal.returns-clause-refusal
returns-clause-refusal c = λ settled known s event looks size.
    let p : Places = places_of c.self.inside in
    let here : Looks settled known p s = subst (λ (q : Places). Looks settled known q s) (sym c.self.view_is) looks in
    let found = c.in-Some.ensures.found settled known s looks in
    let same : c.len.result + c.self.inside.open_puts + c.self.inside.staged_puts ≡ count s =
    omega (arith, c.len.ensures, c.self.invariant.staged_puts_are, count_is settled known p s here) in
    sym (refuses_none s _ found.0 event found.1 (sym (ap (λ (n : Numbers). n.rules.kind) here.numbers)) (sym (ap (λ (n : Numbers). n.broken) here.numbers) ∙ c.if-self.false)
    (omega (arith, found.2, c.if-held-self.false, ap (λ (n : Numbers). n.rules.limits.txn_capacity) here.numbers))
    (omega (arith, size, c.if-size-gt-MAX_KEPT_SIZE.false))
    (omega (arith, same, c.if-count-self.false, ap (λ (n : Numbers). n.rules.limits.capacity) here.numbers)))

pub returns-clause-may : goal.returns-clause-may
returns-clause-may c = λ pointer.
    let may = c.in-Some.ensures.may (omega (arith, c.if-held-self.false, ap (λ (q : Places). q.numbers.rules.limits.txn_capacity) c.self.view_is)) in
    record {
      life = may.0;
      room = may.1 pointer;
      few = omega (arith, c.if-count-self.false, c.len.ensures, c.self.invariant.staged_puts_are, ap (λ (q : Places). q.numbers.rules.limits.capacity) c.self.view_is, ap (λ (q : Places). Rattle.channel_places.specs.Looks.count_in q) c.self.view_is);
    }
