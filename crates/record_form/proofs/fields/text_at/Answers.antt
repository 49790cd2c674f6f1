use Rattle.std.proofs.Common.{◌≡◌, ◌+◌, ◌-◌, ◌&&◌, true, false, take, drop, sym, arith, ap, ◌∙◌}
use Rattle.std.specs.Option.{option_copied}
use Rattle.std.specs.Str.{is_utf8}
use Rattle.std.proofs.lemmas.Result.{err_from_is_err_and}
use Rattle.std.proofs.lemmas.Bool.{false_from_ne_true}
use Rattle.std.proofs.lemmas.Str.{is_utf8-from_IsUtf8, IsUtf8-from_is_utf8}
use Rattle.record_form.specs.Grammar.{is_above}
use Rattle.record_form.proofs.Steps.{text-cut, text-long, text-rest, text-fault, text-read}
use Rattle.record_form.proofs.fields.text_at.Goals as goal

pub returns-in_err-length-clause-reads : goal.returns-in_err-length-clause-reads
returns-in_err-length-clause-reads c next =
    let p = err_from_is_err_and c.from_residual.result c.from_residual.ensures.1 in
    rw (p.1, p.2, c.in_err-length.ensures.1) (text-cut c.args.end (option_copied c.args.last) next c.args.bytes.now c.args.at c.requires.within c.in_err-length.ensures.0)

pub returns-then-at-length-clause-reads : goal.returns-then-at-length-clause-reads
returns-then-at-length-clause-reads c next = text-long c.args.end (option_copied c.args.last) next c.args.bytes.now c.args.at c.in_ok-length.field-0 c.in_ok-length.ensures.0 c.in_ok-length.ensures.1 c.if-at-length.true

pub returns-in_err-text_end-clause-reads : goal.returns-in_err-text_end-clause-reads
returns-in_err-text_end-clause-reads c next =
    let p = err_from_is_err_and c.from_residual-in_err-text_end.result c.from_residual-in_err-text_end.ensures.1 in
    rw (p.1, p.2, c.in_err-text_end.ensures.1) (text-rest c.args.end (option_copied c.args.last) next c.args.bytes.now c.args.at c.in_ok-length.field-0 c.in_ok-length.ensures.0 c.in_ok-length.ensures.1 c.if-at-length.false c.in_err-text_end.ensures.0)

pub returns-in_default-clause-reads : goal.returns-in_default-clause-reads
returns-in_default-clause-reads c next =
    let n = c.in_ok-length.field-0 in
    let rest = drop (c.args.at + 4) c.args.bytes.now in
    let width : c.in_ok-text_end.text_end - (c.args.at + 4) ≡ n = omega (arith, c.in_ok-text_end.ensures.1) in
    let wrong : is_utf8 (take n rest) ≡ false = ap (λ m. is_utf8 (take m rest)) (sym width) ∙ false_from_ne_true (is_utf8 (take (c.in_ok-text_end.text_end - (c.args.at + 4)) rest)) (λ h. c.in_default.ensures.cases.0 (IsUtf8-from_is_utf8 (take (c.in_ok-text_end.text_end - (c.args.at + 4)) rest) h)) in
    text-fault c.args.end (option_copied c.args.last) next c.args.bytes.now c.args.at n c.in_ok-length.ensures.0 c.in_ok-length.ensures.1 c.if-at-length.false c.in_ok-text_end.ensures.0
    (ap (λ b. b && is_above (option_copied c.args.last) (take n rest)) wrong)

pub returns-then-is_above-clause-reads : goal.returns-then-is_above-clause-reads
returns-then-is_above-clause-reads c next =
    let n = c.in_ok-length.field-0 in
    let text = c.in-Ok.text.now in
    let rest = drop (c.args.at + 4) c.args.bytes.now in
    let width : c.in_ok-text_end.text_end - (c.args.at + 4) ≡ n = omega (arith, c.in_ok-text_end.ensures.1) in
    let same : text ≡ take n rest = c.in-Ok.ensures.cases.0 ∙ ap (λ m. take m rest) width in
    let utf8 : is_utf8 text ≡ true = ap is_utf8 c.in-Ok.ensures.cases.0 ∙ is_utf8-from_IsUtf8 (take (c.in_ok-text_end.text_end - (c.args.at + 4)) rest) c.in-Ok.ensures.cases.1 in
    text-read c.args.end (option_copied c.args.last) next c.args.bytes.now c.args.at n text c.in_ok-length.ensures.0 c.in_ok-length.ensures.1 c.if-at-length.false c.in_ok-text_end.ensures.0
    same utf8 (sym c.is_above.ensures ∙ c.if-is_above.true)

pub returns-else-is_above-clause-reads : goal.returns-else-is_above-clause-reads
returns-else-is_above-clause-reads c next =
    let n = c.in_ok-length.field-0 in
    let text = c.in-Ok.text.now in
    let rest = drop (c.args.at + 4) c.args.bytes.now in
    let width : c.in_ok-text_end.text_end - (c.args.at + 4) ≡ n = omega (arith, c.in_ok-text_end.ensures.1) in
    let same : text ≡ take n rest = c.in-Ok.ensures.cases.0 ∙ ap (λ m. take m rest) width in
    let utf8 : is_utf8 text ≡ true = ap is_utf8 c.in-Ok.ensures.cases.0 ∙ is_utf8-from_IsUtf8 (take (c.in_ok-text_end.text_end - (c.args.at + 4)) rest) c.in-Ok.ensures.cases.1 in
    let wrong : is_above (option_copied c.args.last) text ≡ false = sym c.is_above.ensures ∙ c.if-is_above.false in
    text-fault c.args.end (option_copied c.args.last) next c.args.bytes.now c.args.at n c.in_ok-length.ensures.0 c.in_ok-length.ensures.1 c.if-at-length.false c.in_ok-text_end.ensures.0
    (ap (λ t. is_utf8 t && is_above (option_copied c.args.last) t) (sym same) ∙ ap (λ b. b && is_above (option_copied c.args.last) text) utf8 ∙ ap (λ b. true && b) wrong)
