-- Lists of places.
use Rattle.std.proofs.Common.{◌≡◌, ap, refl, ℕ, List, [], ◌∷◌, ◌++◌, Bool, true, false, cond}
use Rattle.event_core.specs.Journal.{is_among}
use Rattle.selectors.specs.Choices.{without}

by_cases : (b : Bool) (x : ℕ) (both front back : List ℕ) → both ≡ front ++ back → cond b both (x ∷ both) ≡ cond b front (x ∷ front) ++ back
by_cases true x both front back is = is
by_cases false x both front back is = ap (λ (l : List ℕ). x ∷ l) is

-- leaving places out of two lists is leaving them out of each
pub without-append : (others xs ys : List ℕ) → without others (xs ++ ys) ≡ without others xs ++ without others ys
without-append others [] ys = refl
without-append others (x ∷ xs) ys = by_cases (is_among others x) x (without others (xs ++ ys)) (without others xs) (without others ys) (without-append others xs ys)
