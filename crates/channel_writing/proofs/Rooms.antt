-- Whether a frame has room for a record, and how many bytes then wait in it.
use Rattle.std.proofs.Common.{◌≡◌, ◌⊎◌, inl, inr, ◌<◌, ◌≤◌, ◌+◌, ◌==◌, ℕ, Bool, true, false, cond, refl, arith}
use Rattle.std.proofs.lemmas.Bool.Decides.{nat_tests}
use Rattle.std.specs.Prelude.{◌↔◌}
use Rattle.channel_writing.specs.Touches.{HasNoRoom}
use Rattle.channel_writing.specs.Waiting.{rollback_length}

differ : {A : Type 0} → false ≡ true → A
differ is = absurd (cc)

-- what has no room lacks it
pub lacks : (waiting size : ℕ) → (waiting + size + 6 ≤ 2_097_152 → ⊥) → HasNoRoom waiting size
lacks waiting size full = from (side (waiting + size + 6))
  where
    side : (n : ℕ) → (2_097_152 < n) ⊎ (n ≤ 2_097_152)
    side n = grind arith

    from : (2_097_152 < waiting + size + 6) ⊎ (waiting + size + 6 ≤ 2_097_152) → HasNoRoom waiting size
    from (inl more) = more
    from (inr fits) = absurd (full fits)

-- a put that did not spill had room
pub has_enough : (waiting size : ℕ) → waiting + size + 6 ≤ 2_097_152 → (false ≡ true) ↔ HasNoRoom waiting size
has_enough waiting size fits = (λ is. differ is, λ more. absurd (omega (arith, fits, more)))

-- one that spilled had none
pub has_none : (waiting size : ℕ) → (waiting + size + 6 ≤ 2_097_152 → ⊥) → (true ≡ true) ↔ HasNoRoom waiting size
has_none waiting size full = (λ is. lacks waiting size full, λ more. refl)

-- the bytes that wait after a call

not_zero : (n : ℕ) → 0 < n → (n == 0) ≡ false
not_zero n some = grind (arith, nat_tests)

is_zero : (n : ℕ) → n ≤ 0 → (n == 0) ≡ true
is_zero n none = grind (arith, nat_tests)

-- what is not nothing is positive
pub positive : (n : ℕ) → (n ≡ 0 → ⊥) → 0 < n
positive n not = from (side n)
  where
    side : (n : ℕ) → (0 < n) ⊎ (n ≡ 0)
    side n = grind arith

    from : (0 < n) ⊎ (n ≡ 0) → 0 < n
    from (inl some) = some
    from (inr nothing) = absurd (not nothing)

-- a transaction that did something is staged with a record of this length
pub staged_some : (count waiting size : ℕ) → 0 < count → waiting + size ≡ waiting + cond (count == 0) 0 size
staged_some count waiting size some = rw (not_zero count some) refl

-- one that did nothing is staged without a record
pub staged_none : (count waiting size : ℕ) → count ≡ 0 → waiting ≡ waiting + cond (count == 0) 0 size
staged_none count waiting size none = rw (is_zero count (omega (arith, none))) (omega arith)

-- what is not positive is nothing
pub none : (n : ℕ) → (0 < n → ⊥) → n ≤ 0
none n not = from (side n)
  where
    side : (n : ℕ) → (0 < n) ⊎ (n ≤ 0)
    side n = grind arith

    from : (0 < n) ⊎ (n ≤ 0) → n ≤ 0
    from (inl some) = absurd (not some)
    from (inr low) = low

-- a transaction that did something is given up with a record, unless the channel is broken
pub rolled_some : (broken : Bool) (held waiting : ℕ) → (0 < held) × (broken ≡ false) → waiting + 9 ≡ waiting + rollback_length broken held
rolled_some broken held waiting both = rw (both.1, not_zero held both.0) refl

-- and else without one
pub rolled_none : (broken : Bool) (held waiting : ℕ) → ((0 < held) × (broken ≡ false) → ⊥) → waiting ≡ waiting + rollback_length broken held
rolled_none true held waiting not = omega arith
rolled_none false held waiting not = rw (is_zero held (none held (λ some. not (some, refl)))) (omega arith)
