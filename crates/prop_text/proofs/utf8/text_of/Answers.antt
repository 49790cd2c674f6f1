use Rattle.std.proofs.Common.{◌≡◌, ◌+◌, None, Some, length, get_or, drop, ap, sym, ◌∙◌, subst, arith}
use Rattle.std.proofs.lemmas.Bool.{cond-true, cond-false}
use Rattle.std.proofs.lemmas.List.{get_or-drop, length-drop}
use Rattle.std.specs.Int.{is_in_range}
use Rattle.std.specs.Str.{IsValidUpTo}
use Rattle.std.specs.Str.Lossy.{utf8_error_len}
use Rattle.prop_text.specs.Winners.{IsFirstFault}
use Rattle.prop_text.proofs.FirstFault.{place, first_fault}
use Rattle.prop_text.proofs.utf8.text_of.Goals as goal
use Rattle.prop_text.proofs.utf8.text_of.Goals.{in-None, in-Some, in-Some-2}

pub returns-after-error_len : goal.returns-after-error_len
returns-after-error_len c =
    let bytes = c.args.bytes.now in
    let v = c.valid_up_to-valid.result in
    let same = sym c.valid_up_to-valid.ensures in
    let valid : IsValidUpTo bytes v = subst (IsValidUpTo bytes) same c.in-Err.ensures.cases.1 in
    let short = valid.short in
    let told = c.in-Err.ensures.fault ∙ ap (λ k. utf8_error_len (drop k bytes)) same in
    let lead : get_or (drop v bytes) 0 0 ≡ get_or bytes v 0 = get_or-drop v bytes 0 0 ∙ ap (λ k. get_or bytes k 0) (omega arith) in
    let tested = ap (is_in_range 194 244) lead in
    elim c.match-error_len.branch [
      | in-None w ↦
          let place_is : v + length (drop v bytes) ≡ c.match-error_len.at = omega (arith, w.at-is, length-drop v bytes) in
          subst (IsFirstFault bytes) place_is (first_fault bytes v valid None (w.in-None.ensures ∙ told))
      | in-Some w ↦
          let n = w.in-Some.begun in
          let place_is : v + place (drop v bytes) (Some n) ≡ c.match-error_len.at = ap (λ k. v + k) (cond-true _ n 0 (tested ∙ sym w.if-is_lead.ensures)) ∙ sym w.at-is in
          subst (IsFirstFault bytes) place_is (first_fault bytes v valid (Some n) (w.in-Some.ensures ∙ told))
      | in-Some-2 w ↦
          let n = w.in-Some-2.field-0 in
          let place_is : v + place (drop v bytes) (Some n) ≡ c.match-error_len.at = ap (λ k. v + k) (cond-false _ n 0 (tested ∙ sym w.if-is_lead.ensures)) ∙ omega (arith, w.at-is) in
          subst (IsFirstFault bytes) place_is (first_fault bytes v valid (Some n) (w.in-Some-2.ensures ∙ told))
    ]
