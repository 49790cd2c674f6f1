use Rattle.std.proofs.Common.{◌≡◌, ◌<◌, ℕ, Bool, true, false, ◌&&◌, nat_lt, List, length, get_or, Option, Some, None, refl, sym, ap, ◌∙◌, arith}
use Rattle.std.proofs.lemmas.Bool.{lt-ltb, le-ltb, cond-false, cond-true}
use Rattle.std.proofs.lemmas.List.{get_or_past}
use Rattle.std.specs.Char.{digit_value}
use Rattle.prop_text.specs.Pairs.{digit_at, hex_number}
use Rattle.prop_text.proofs.pairs.hex_number.Goals as goal

-- whether the digit at a place is hexadecimal
abbrev is_digit : List ℕ → ℕ → Bool
is_digit bytes place = nat_lt (digit_at bytes place) 16

no : (bytes : List ℕ) (place : ℕ) → (digit_value (get_or bytes place 0) < 16 → ⊥) → is_digit bytes place ≡ false
no bytes place not = le-ltb _ _ (omega (arith, not))

none_last : (a b c d : Bool) → d ≡ false → (a && b && c && d) ≡ false
none_last false b c d e = refl
none_last true false c d e = refl
none_last true true false d e = refl
none_last true true true d e = e

none : (bytes : List ℕ) → (is_digit bytes 0 && is_digit bytes 1 && is_digit bytes 2 && is_digit bytes 3) ≡ false → None ≡ hex_number bytes
none bytes e = sym (cond-false _ _ _ e)

pub returns-then-bytes-lt4-clause-value : goal.returns-then-bytes-lt4-clause-value
returns-then-bytes-lt4-clause-value c =
    let bytes = c.args.bytes.now in
    none bytes (none_last (is_digit bytes 0) (is_digit bytes 1) (is_digit bytes 2) _ (ap (λ (b : ℕ). nat_lt (digit_value b) 16) (get_or_past bytes 3 0 (omega arith))))

pub returns-in_err-first-clause-value : goal.returns-in_err-first-clause-value
returns-in_err-first-clause-value c =
    let bytes = c.args.bytes.now in
    c.from_residual.ensures ∙ none bytes (rw (no bytes 0 (c.in_err-first.ensures)) refl)

pub returns-in_err-second-clause-value : goal.returns-in_err-second-clause-value
returns-in_err-second-clause-value c =
    let bytes = c.args.bytes.now in
    c.from_residual-in_err-second.ensures ∙ none bytes (rw (lt-ltb (digit_at bytes 0) 16 c.in_ok-first.ensures.0, no bytes 1 (c.in_err-second.ensures)) refl)

pub returns-in_err-third-clause-value : goal.returns-in_err-third-clause-value
returns-in_err-third-clause-value c =
    let bytes = c.args.bytes.now in
    c.from_residual-in_err-third.ensures
    ∙ none bytes (rw (lt-ltb (digit_at bytes 0) 16 c.in_ok-first.ensures.0, lt-ltb (digit_at bytes 1) 16 c.in_ok-second.ensures.0, no bytes 2 (c.in_err-third.ensures)) refl)

pub returns-in_err-fourth-clause-value : goal.returns-in_err-fourth-clause-value
returns-in_err-fourth-clause-value c =
    let bytes = c.args.bytes.now in
    c.from_residual-in_err-fourth.ensures ∙ none bytes (none_last (is_digit bytes 0) (is_digit bytes 1) (is_digit bytes 2) _ (no bytes 3 (c.in_err-fourth.ensures)))

pub returns-clause-value : goal.returns-clause-value
returns-clause-value c =
    let bytes = c.args.bytes.now in
    let a = c.in_ok-first.ensures in
    let b = c.in_ok-second.ensures in
    let d = c.in_ok-third.ensures in
    let e = c.in_ok-fourth.ensures in
    let all : (is_digit bytes 0 && is_digit bytes 1 && is_digit bytes 2 && is_digit bytes 3) ≡ true =
    rw (lt-ltb (digit_at bytes 0) 16 a.0, lt-ltb (digit_at bytes 1) 16 b.0, lt-ltb (digit_at bytes 2) 16 d.0, lt-ltb (digit_at bytes 3) 16 e.0) refl in
    rw (a.1, b.1, d.1, e.1) (sym (cond-true _ _ _ all))

pub returns-clause-bound : goal.returns-clause-bound
returns-clause-bound c = omega (arith, c.in_ok-first.ensures, c.in_ok-second.ensures, c.in_ok-third.ensures, c.in_ok-fourth.ensures)
