-- Lists of objects with names.
use Rattle.std.proofs.Common.{◌≡◌, ◌∙◌, ℕ, suc, ◌<◌, List, [], ◌∷◌, ◌++◌, length, get_or, take, drop, ap, sym, string_bytes}
use Rattle.std.proofs.Math.Seq.{take-suc, drop-cons}
use Rattle.std.proofs.lemmas.List.{take-append-drop}
use Rattle.plan_objects.specs.declared.named.Named.{Named}
use Rattle.plan_objects.specs.Named.{HasNone}

none_pushed : {T : Type 0} (name : List ℕ) (xs : List (Named T)) (x : Named T) → HasNone name xs → (string_bytes x.name ≡ name → ⊥) → HasNone name (xs ++ x ∷ [])
none_pushed name [] x none other = (other, tt)
none_pushed name (y ∷ xs) x none other = (none.0, none_pushed name xs x none.1 other)

-- nor has the next one
pub none_more : {T : Type 0} (name : List ℕ) (xs : List (Named T)) (i : ℕ) (x : Named T) → i < length xs → x ≡ get_or xs i x → HasNone name (take i xs) → (string_bytes x.name ≡ name → ⊥) → HasNone name (take (suc i) xs)
none_more {T} name xs i x within is none other =
    rw (take-suc xs i x within, ← is) (none_pushed name (take i xs) x none other)

-- the list about one of its objects
pub about : {T : Type 0} (xs : List (Named T)) (i : ℕ) (x : Named T) → i < length xs → x ≡ get_or xs i x → xs ≡ take i xs ++ x ∷ drop (suc i) xs
about {T} xs i x within is =
    sym (take-append-drop i xs) ∙ ap (λ (l : List (Named T)). take i xs ++ l) (drop-cons xs i x within ∙ ap (λ (y : Named T). y ∷ drop (suc i) xs) (sym is))
