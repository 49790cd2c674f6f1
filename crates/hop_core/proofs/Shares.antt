-- The front of a list, with those that pass a test.
use Rattle.std.proofs.Common.{◌≡◌, ◌∙◌, ◌++◌, ◌∷◌, ◌+◌, [], ℕ, List, take, Bool, true, false, Some, ap, cond}
use Rattle.std.specs.Prelude.{filter}
use Rattle.std.specs.List.{slice_get}
use Rattle.std.proofs.lemmas.List.{append-nil}
use Rattle.std.proofs.lemmas.List.Elements.{filter_more}
use Rattle.std.proofs.lemmas.Option.{slice_get_within, get_or_from_slice_get}

one_more : {A : Type 0} (p : A → Bool) (xs : List A) (i : ℕ) (x : A) → slice_get xs i ≡ Some x → filter p (take (i + 1) xs) ≡ filter p (take i xs) ++ cond (p x) (x ∷ []) []
one_more {A = A} p xs i x is = filter_more p xs i x (slice_get_within xs i x is) ∙ ap (λ (y : A). filter p (take i xs) ++ cond (p y) (y ∷ []) []) (get_or_from_slice_get xs i x x is)

-- one more that passes the test joins the others
pub one_passes : {A : Type 0} (p : A → Bool) (xs : List A) (i : ℕ) (x : A) → slice_get xs i ≡ Some x → p x ≡ true → filter p (take (i + 1) xs) ≡ filter p (take i xs) ++ x ∷ []
one_passes {A = A} p xs i x is pass = one_more p xs i x is ∙ ap (λ (b : Bool). filter p (take i xs) ++ cond b (x ∷ []) []) pass

-- one more that does not pass leaves the others as they are
pub one_fails : {A : Type 0} (p : A → Bool) (xs : List A) (i : ℕ) (x : A) → slice_get xs i ≡ Some x → p x ≡ false → filter p (take (i + 1) xs) ≡ filter p (take i xs)
one_fails {A = A} p xs i x is fail = one_more p xs i x is ∙ (ap (λ (b : Bool). filter p (take i xs) ++ cond b (x ∷ []) []) fail ∙ append-nil (filter p (take i xs)))
