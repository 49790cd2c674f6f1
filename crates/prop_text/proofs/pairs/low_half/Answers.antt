use Rattle.std.proofs.Common.{◌≡◌, ◌==◌, ℕ, Bool, true, false, ◌&&◌, if◌then◌else◌, List, drop, slice_index, Option, Some, None, option_and_then, encode_utf8, refl, sym, ap, ◌∙◌, arith}
use Rattle.std.proofs.lemmas.Bool.{cond-false, cond-true, eqb-true, false_from_ne_true}
use Rattle.std.proofs.lemmas.List.{get_or_past, take_rest}
use Rattle.prop_text.specs.Pairs.{hex_number, is_low, low_half, pair_char}
use Rattle.prop_text.proofs.pairs.low_half.Goals as goal
use Rattle.prop_text.proofs.pairs.low_half.Goals.{then-bytes-lt2-via-then-bytes-lt2, then-bytes-lt2-via-else-bytes-lt2+then-bytes-ne92, then-bytes-lt2-via-else-bytes-lt2+else-bytes-ne92+then-bytes-ne117}

-- where no escape begins, and where one does
none : (high : ℕ) (bytes : List ℕ) → (slice_index bytes 0 == 92 && slice_index bytes 1 == 117) ≡ false → None ≡ low_half high bytes
none high bytes e = sym (cond-false _ _ _ e)

both : (a b : Bool) → b ≡ false → (a && b) ≡ false
both false b e = refl
both true b e = e

of_low : (high : ℕ) (bytes : List ℕ) (low : Option ℕ) → slice_index bytes 0 ≡ 92 → slice_index bytes 1 ≡ 117 → low ≡ hex_number (drop 2 bytes)
    → option_and_then (λ (n : ℕ). if is_low n then Some (encode_utf8 (pair_char high n), 11) else None) low ≡ low_half high bytes
of_low high bytes low a b h =
    ap (λ (o : Option ℕ). option_and_then (λ (n : ℕ). if is_low n then Some (encode_utf8 (pair_char high n), 11) else None) o) h
    ∙ sym (cond-true (slice_index bytes 0 == 92 && slice_index bytes 1 == 117) _ _ (rw (a, b) refl))

pub returns-then-bytes-lt2-clause-value : goal.returns-then-bytes-lt2-clause-value
returns-then-bytes-lt2-clause-value c =
    let bytes = c.args.bytes.now in
    none c.args.high bytes (elim c.then-bytes-lt2.branch [
      | then-bytes-lt2-via-then-bytes-lt2 w ↦ both (slice_index bytes 0 == 92) _ (ap (λ (b : ℕ). b == 117) (get_or_past bytes 1 0 (omega arith)))
      | then-bytes-lt2-via-else-bytes-lt2+then-bytes-ne92 w ↦ rw (false_from_ne_true (slice_index bytes 0 == 92) (λ e. w.if-bytes-ne92.true (eqb-true _ _ e))) refl
      | then-bytes-lt2-via-else-bytes-lt2+else-bytes-ne92+then-bytes-ne117 w ↦ both (slice_index bytes 0 == 92) _ (false_from_ne_true (slice_index bytes 1 == 117) (λ e. w.if-bytes-ne117.true (eqb-true _ _ e)))
    ])

pub returns-in_err-low-clause-value : goal.returns-in_err-low-clause-value
returns-in_err-low-clause-value c = rw c.from_residual.ensures (of_low c.args.high c.args.bytes.now None c.if-bytes-ne92.false c.if-bytes-ne117.false (rw (take_rest c.args.bytes.now 2) at c.in_err-low.ensures.value))

pub returns-then-not-is_low-clause-value : goal.returns-then-not-is_low-clause-value
returns-then-not-is_low-clause-value c =
    let low = c.in_ok-low.low in
    sym (cond-false (is_low low) _ _ (sym c.is_low.ensures ∙ c.if-not-is_low.true))
    ∙ of_low c.args.high c.args.bytes.now (Some low) c.if-bytes-ne92.false c.if-bytes-ne117.false (rw (take_rest c.args.bytes.now 2) at c.in_ok-low.ensures.value)

pub returns-clause-value : goal.returns-clause-value
returns-clause-value c =
    let low = c.in_ok-low.low in
    ap (λ (n : ℕ). Some (encode_utf8 n, 11)) c.in-Some.ensures.value.1
    ∙ sym (cond-true (is_low low) _ _ (sym c.if-not-is_low.ensures))
    ∙ of_low c.args.high c.args.bytes.now (Some low) c.if-bytes-ne92.false c.if-bytes-ne117.false (rw (take_rest c.args.bytes.now 2) at c.in_ok-low.ensures.value)
