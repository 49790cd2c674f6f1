-- The order of numbers, as a map's keys are compared.
use Rattle.std.proofs.Common.{◌≡◌, ◌≢◌, ◌<◌, ◌≤◌, ℕ, true, false, nat_lt, Option, None, Some, arith, ◌∙◌, refl}
use Rattle.std.proofs.lemmas.Bool.Decides.{nat_tests}
use Rattle.std.specs.Ordering.{is_eq, nat_cmp}
use Rattle.std.specs.Cmp.{unsigned_tied}
use Rattle.std.specs.declared.cmp.Ordering.TheVariants.{Less}
use Rattle.std.specs.declared.ops.Bound.{Bound}
use Rattle.std.specs.declared.ops.Bound.TheVariants.{Excluded, Unbounded}
use Rattle.std.specs.BTreeMap.Range.{IsLeBy, IsInRange}
use Rattle.open_table.specs.Tables.{IsAbove}

-- numbers that differ do not compare as equal
pub apart : (a b : ℕ) → b ≢ a → is_eq (nat_cmp a b) ≡ false
apart a b ne = unsigned_tied a b ∙ grind (arith, nat_tests)

-- where a range starts that has all numbers above this one
abbrev pub start_of : Option ℕ → Bound ℕ
start_of None = Unbounded
start_of (Some after) = Excluded after

-- a smaller number compares as less
pub less : (a b : ℕ) → a < b → nat_cmp a b ≡ Less
less a b lt = let is : nat_lt a b ≡ true = grind (arith, nat_tests) in rw is refl

-- a number that compares as less is smaller
pub is_less : (a b : ℕ) → nat_cmp a b ≡ Less → a < b
is_less a b is = grind (arith, nat_tests, is)

-- a number that compares as less or equal is at most the other
pub at_most : (a b : ℕ) → IsLeBy nat_cmp a b → a ≤ b
at_most a b is = grind (arith, nat_tests, is)

-- a number above the last one is in the range after it
pub inside : (after : Option ℕ) (n : ℕ) → IsAbove after n → IsInRange nat_cmp (start_of after) Unbounded n
inside None n above = (tt, tt)
inside (Some a) n above = (less a n above, tt)

-- a number in the range after the last one is above that
pub above : (after : Option ℕ) (n : ℕ) → IsInRange nat_cmp (start_of after) Unbounded n → IsAbove after n
above None n is = tt
above (Some a) n is = is_less a n is.0
