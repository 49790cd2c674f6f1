use Rattle.std.proofs.Common.{◌≡◌, ◌++◌, List, ℕ, arith, nat_eq, length, take, drop, refl, sym, ap, ◌∙◌}
use Rattle.std.specs.List.{starts_with}
use Rattle.regex_steps.specs.Dates.{are_digits}
use Rattle.regex_steps.proofs.DateTexts.{too_short, no_digits, quoted_not, quoted_is, take_all}
use Rattle.regex_steps.proofs.date_pattern.behind.Goals as goal

pub returns-then-text-count-clause-none : goal.returns-then-text-count-clause-none
returns-then-text-count-clause-none c = rw c.in-Digits.is (too_short c.in-Digits.field c.args.text.now (omega (arith, c.digit_count-count.ensures)))

pub returns-in-None-clause-none : goal.returns-in-None-clause-none
returns-in-None-clause-none c =
    rw c.in-Digits.is (no_digits c.in-Digits.field c.args.text.now
    (ap (λ (k : ℕ). are_digits (take k c.args.text.now)) (sym c.digit_count-count.ensures) ∙ c.in-None.ensures.none))

pub returns-then-not-starts_with-clause-none : goal.returns-then-not-starts_with-clause-none
returns-then-not-starts_with-clause-none c =
    let value : c.starts_with.result ≡ starts_with nat_eq c.args.text.now c.as_slice.result.now = c.starts_with.ensures.value in
    rw c.in-Quoted.is (quoted_not c.args.text.now c.in-Quoted.literal.items
    (ap (starts_with nat_eq c.args.text.now) (sym c.as_slice.ensures.value) ∙ sym value ∙ c.if-not-starts_with.true))

pub returns-else-not-starts_with-clause-some : goal.returns-else-not-starts_with-clause-some
returns-else-not-starts_with-clause-some c =
    let value : c.starts_with.result ≡ starts_with nat_eq c.args.text.now c.as_slice.result.now = c.starts_with.ensures.value in
    let is = quoted_is c.args.text.now c.in-Quoted.literal.items (ap (starts_with nat_eq c.args.text.now) (sym c.as_slice.ensures.value) ∙ sym value ∙ c.if-not-starts_with.false) in
    let len : c.len.result ≡ length c.in-Quoted.literal.items = sym (c.as_slice.ensures.len ∙ sym c.len.ensures) ∙ ap length c.as_slice.ensures.value in
    rw c.in-Quoted.is (is ∙ ap (λ (x : List ℕ). c.in-Quoted.literal.items ++ x) (ap (λ (k : ℕ). drop k c.args.text.now) (sym len) ∙ sym (take_all c.len.result c.args.text.now)), refl)
