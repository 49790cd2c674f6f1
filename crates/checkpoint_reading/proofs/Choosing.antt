-- The choice of the newest checkpoint.
use Rattle.std.specs.Prelude.{IsSomeAnd, get_or, min}
use Rattle.std.proofs.Common.{◌⊎◌, inl, inr, ◌≡◌, ◌≢◌, ◌≤◌, ◌<◌, ◌+◌, ◌-◌, ◌^◌, ◌++◌, ℕ, List, length, take, drop, nat_lt, ◌==◌, Option, Some, None, Bool, true, false, cond, refl, sym, subst, ◌∙◌, arith}
use Rattle.std.proofs.lemmas.Bool.Decides.{eqb_tells, nat_tests}
use Rattle.std.proofs.lemmas.Bool.{ltb-true, cases_lt}
use Rattle.flume_host.specs.declared.names.FileName.{FileName}
use Rattle.flume_host.specs.declared.names.FileName.TheVariants.{Check, Log}
use Rattle.flume_host.specs.Folder.{Files, IsAbove, IsNext, name_below}
use Rattle.flume_host.specs.Told.{Told, WhereTold}
use Rattle.checkpoint.specs.Newest.{IsNewest, IsPassed, IsPassedFile}

-- above this number, or any
abbrev pub IsLater : Option ℕ → ℕ → Type 0
IsLater None n = Unit {0}
IsLater (Some k) n = k < n

-- a checkpoint of this number counts, if one is chosen
abbrev pub Counts : Files → Option ℕ → Type 0
Counts files None = Unit {0}
Counts files (Some k) = IsSomeAnd (files (Check k)) (λ bytes. IsPassed bytes → ⊥)

-- The newest one of those that are not above a name.
pub record NewestUpTo (files : Files) (after : Option FileName) (newest : Option ℕ) : Type 0 where
  pub counts : Counts files newest
  pub passed : (n : ℕ) → (IsAbove after (Check n) → ⊥) → IsLater newest n → IsPassedFile (files (Check n))

-- How far a folder was gone through.
pub record ChosenUpTo (was told : Option Told) (faulty faults : ℕ) (after : Option FileName) (newest : Option ℕ) : Type 0 where
  pub same : told ≡ was
  pub well : faults ≡ faulty
  pub low : (n : ℕ) → after ≡ Some (Log n) → n < 2 ^ 32
  pub newest_is : WhereTold was (λ t. NewestUpTo t.reads after newest)

-- where a name stands in the order of names
abbrev pub order : Option FileName → ℕ
order None = 0
order (Some (Log n)) = n + 1
order (Some (Check n)) = 2 ^ 32 + (n + 1)

-- before the first name none is chosen
pub chosen_none : (told : Option Told) (faults : ℕ) → ChosenUpTo told told faults faults None None
chosen_none told faults = record { same = refl; well = refl; low = λ n is. absurd (cc); newest_is = λ t is. record { counts = tt; passed = λ n above later. absurd (above tt) } }

gone_passed : (file : Option (List ℕ)) → file ≡ None → IsPassedFile file
gone_passed None is = tt
gone_passed (Some bytes) is = absurd (cc)

-- a name comes above another, or does not
above_or : (after : Option FileName) (name : FileName) → IsAbove after name ⊎ (IsAbove after name → ⊥)
above_or None name = inl tt
above_or (Some a) name = by (name_below a name) refl
  where
    by : (b : Bool) → name_below a name ≡ b → (name_below a name ≡ true) ⊎ (name_below a name ≡ true → ⊥)
    by true is = inl is
    by false is = inr (λ above. let e : false ≡ true = sym is ∙ above in absurd (cc))

-- a log file changes nothing
pub log_on : (files : Files) (after : Option FileName) (newest : Option ℕ) (m : ℕ) → NewestUpTo files after newest → NewestUpTo files (Some (Log m)) newest
log_on files after newest m up = record { counts = up.counts; passed = λ n above later. absurd (above refl) }

not_above : (m n : ℕ) → (nat_lt m n ≡ true → ⊥) → n ≤ m
not_above m n not_so = by (cases_lt m n)
  where
    by : ((m < n) ⊎ (n ≤ m)) → n ≤ m
    by (inl less) = absurd (not_so (grind (arith, nat_tests)))
    by (inr le) = le

less_true : (a b : ℕ) → a < b → nat_lt a b ≡ true
less_true a b less = grind (arith)

-- a checkpoint is the newest one so far, if it counts
pub check_on : (files : Files) (after : Option FileName) (newest : Option ℕ) (m : ℕ) (counted : Bool) → NewestUpTo files after newest → IsNext files after (Some (Check m))
    → (counted ≡ true → IsSomeAnd (files (Check m)) (λ bytes. IsPassed bytes → ⊥)) → (counted ≡ false → IsPassedFile (files (Check m))) → NewestUpTo files (Some (Check m)) (cond counted (Some m) newest)
check_on files after newest m true up next counts passed = record { counts = counts refl; passed = λ n above later. absurd (omega (arith, later, not_above m n above)) }
check_on files after newest m false up next counts passed = record { counts = up.counts; passed = λ n above later. at n later (eqb_tells n m) (not_above m n above) }
  where
    old : (n : ℕ) → IsLater newest n → n < m → IsAbove after (Check n) ⊎ (IsAbove after (Check n) → ⊥) → IsPassedFile (files (Check n))
    old n later less (inl over) = gone_passed (files (Check n)) (next.2 (Check n) over (less_true n m less))
    old n later less (inr under) = up.passed n under later

    at : (n : ℕ) → IsLater newest n → (((n == m) ≡ true) × (n ≡ m)) ⊎ (((n == m) ≡ false) × (n ≢ m)) → n ≤ m → IsPassedFile (files (Check n))
    at n later (inl same) le = subst (λ (k : ℕ). IsPassedFile (files (Check k))) (sym same.1) (passed refl)
    at n later (inr other) le = old n later (omega (arith, le, other.1)) (above_or after (Check n))

-- after the last name the one that is chosen is the newest
pub all_chosen : (files : Files) (after : Option FileName) (newest : Option ℕ) → NewestUpTo files after newest → IsNext files after None → IsNewest files newest
all_chosen files after newest up none = by newest up.counts each
  where
    each : (n : ℕ) → IsLater newest n → IsPassedFile (files (Check n))
    each n later = at (above_or after (Check n))
      where
        at : IsAbove after (Check n) ⊎ (IsAbove after (Check n) → ⊥) → IsPassedFile (files (Check n))
        at (inl over) = gone_passed (files (Check n)) (none (Check n) over)
        at (inr under) = up.passed n under later

    by : (found : Option ℕ) → Counts files found → ((n : ℕ) → IsLater found n → IsPassedFile (files (Check n))) → IsNewest files found
    by None counts all = λ n. all n tt
    by (Some k) counts all = (counts, all)

-- each name stands higher in the order than the one before: the loop over names ends
pub order_rises : (after : Option FileName) (name : FileName) → IsAbove after name → ((n : ℕ) → name ≡ Log n → n < 2 ^ 32) → ((n : ℕ) → after ≡ Some (Log n) → n < 2 ^ 32) → order after < order (Some name)
order_rises None (Log n) above low low' = omega arith
order_rises None (Check n) above low low' = omega arith
order_rises (Some (Log a)) (Log n) above low low' = omega (arith, ltb-true a n above)
order_rises (Some (Log a)) (Check n) above low low' = omega (arith, low' a refl)
order_rises (Some (Check a)) (Log n) above low low' = absurd (cc)
order_rises (Some (Check a)) (Check n) above low low' = omega (arith, ltb-true a n above)

-- what the first two bytes of a file show
pub front_tells : (bytes front old : List ℕ) (n : ℕ) → length old ≡ 2 → n ≡ min (length old) (length bytes - 0) → front ≡ take n (drop 0 bytes) ++ drop n old
    → ((n ≡ 2) → get_or front 0 0 ≡ 1 → IsPassed bytes → ⊥) × ((n ≢ 2) ⊎ (get_or front 0 0 ≢ 1) → IsPassed bytes)
front_tells bytes front old n two is read = (λ all one passed. at passed all one, λ either. by either (cases_lt 1 (length bytes)))
  where
    first : n ≡ 2 → get_or front 0 0 ≡ get_or bytes 0 0
    first all = grind (arith, all, read, two)

    at : IsPassed bytes → n ≡ 2 → get_or front 0 0 ≡ 1 → ⊥
    at (inl short) all one = omega (arith, short, all, is, two)
    at (inr closed) all one = closed (sym (first all) ∙ one)

    by : (n ≢ 2) ⊎ (get_or front 0 0 ≢ 1) → ((1 < length bytes) ⊎ (length bytes ≤ 1)) → IsPassed bytes
    by (inl part) (inl long) = absurd (omega (arith, part, long, is, two))
    by (inr other) (inl long) = inr (λ one. other (first (omega (arith, long, is, two)) ∙ one))
    by either (inr short) = inl short
