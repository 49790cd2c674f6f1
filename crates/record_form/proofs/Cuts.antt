-- Records that are cut.
use Rattle.std.proofs.Common.{◌≡◌, ◌<◌, ◌≤◌, ◌+◌, ◌-◌, [], ℕ, Bool, true, false, List, length, take, drop, ⊎_elim, refl, sym, ap, ◌∙◌, arith, length-drop}
use Rattle.std.proofs.lemmas.Bool.{cases_lt}
use Rattle.std.proofs.lemmas.List.{append-nil, drop-take, length-take-le, take-take}
use Rattle.record_form.specs.Record.{HasFields, IsWithinLimits, record_length, spelling}
use Rattle.record_form.specs.declared.record.Rec.{Rec}
use Rattle.record_form.specs.Grammar.{Grammar, Done, Field, Complete, Incomplete, Fault, as_read, outcome_of, read_of, reads, record_grammar}
use Rattle.record_form.specs.declared.record.Read.TheVariants.{Part}
use Rattle.record_form.proofs.Steps.{reads-cut, reads-fault, reads-next, reads-done}
use Rattle.record_form.proofs.Again.{length-spelling, record-again}

-- a front of bytes that are read to their end is cut
front-cut : (g : Grammar) (bytes : List ℕ) (at : ℕ) (rec : Rec) (end n : ℕ) → reads g bytes at ≡ Complete rec end → end ≡ at + length bytes → n < length bytes → reads g (take n bytes) at ≡ Incomplete
front-cut (Done found) bytes at rec end n whole all short =
    let e : Complete found at ≡ Complete rec end = sym (reads-done found bytes at) ∙ whole in
    let same : at ≡ end = cc in
    absurd (omega (arith, same, all, short))
front-cut (Field width fault next) bytes at rec end n whole all short =
    let size : length (take n bytes) ≡ n = length-take-le n bytes (omega (arith, short)) in
    ⊎_elim
    (λ less. reads-cut width fault next (take n bytes) at (omega (arith, size, less)))
    (λ more.
    let long : width ≤ length bytes = omega (arith, more, short) in
    let front : take width (take n bytes) ≡ take width bytes = take-take width n bytes more in
    let n_is : n ≡ width + (n - width) = omega (arith, more) in
    let back : drop width (take n bytes) ≡ take (n - width) (drop width bytes) = ap (λ m. drop width (take m bytes)) n_is ∙ drop-take width (n - width) bytes in
    let P : Bool → Type 0 = λ b. fault (take width bytes) ≡ b → reads (Field width fault next) (take n bytes) at ≡ Incomplete in
    let cases : P (fault (take width bytes)) = elim (fault (take width bytes)) as P [
      | true ↦ λ wrong. let none : Fault at ≡ Complete rec end = sym (reads-fault width fault next bytes at long wrong) ∙ whole in cc
      | false ↦ λ right.
          reads-next width fault next (take n bytes) at (omega (arith, size, more)) (ap fault front ∙ right)
          ∙ ap (λ b. reads (next b) (drop width (take n bytes)) (at + width)) front ∙ ap (λ r. reads (next (take width bytes)) r (at + width)) back
          ∙ front-cut (next (take width bytes)) (drop width bytes) (at + width) rec end (n - width) (sym (reads-next width fault next bytes at long right) ∙ whole)
          (omega (arith, all, length-drop width bytes, long)) (omega (arith, short, length-drop width bytes, more))
    ] in
    cases refl)
    (cases_lt n width)

-- a record whose bytes end early is read as a part
pub cut-part : (rec : Rec) (n : ℕ) → HasFields rec → IsWithinLimits rec → n < record_length rec → read_of (take n (spelling rec)) ≡ Part
cut-part rec n fields limit short =
    let whole : outcome_of (spelling rec) ≡ Complete rec (record_length rec) = ap outcome_of (sym (append-nil (spelling rec))) ∙ record-again rec [] fields limit in
    ap as_read (front-cut record_grammar (spelling rec) 0 rec (record_length rec) n whole (omega (arith, length-spelling rec)) (omega (arith, short, length-spelling rec)))
