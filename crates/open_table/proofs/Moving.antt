-- A list of which each element is changed, one after the other.
use Rattle.std.proofs.Common.{◌≡◌, ◌<◌, ◌+◌, ◌++◌, ◌∷◌, [], ℕ, List, length, take, drop, map, get_or, set, sym, ap, ◌∙◌, arith}
use Rattle.std.proofs.lemmas.List.{take_more, take_more_set, map-append, get_or-drop, drop-set-lt}
use Rattle.std.proofs.lemmas.Grind.{drop_more_same}

-- lists with the same rest from a place on are the same at that place
pub same_here : {X : Type 0} (xs ys : List X) (i : ℕ) (d : X) → drop i xs ≡ drop i ys → get_or xs i d ≡ get_or ys i d
same_here xs ys i d same =
    let at : i + 0 ≡ i = omega arith in
    sym (ap (λ (k : ℕ). get_or xs k d) at) ∙ sym (get_or-drop i xs 0 d) ∙ ap (λ l. get_or l 0 d) same ∙ get_or-drop i ys 0 d ∙ ap (λ (k : ℕ). get_or ys k d) at

-- the next element was changed, and so all up to it were
pub front_more : {X : Type 0} (f : X → X) (xs ys : List X) (i : ℕ) (d y : X) → i < length xs → i < length ys → take i xs ≡ map f (take i ys) → drop i xs ≡ drop i ys → y ≡ f (get_or xs i d)
    → take (i + 1) (set xs i y) ≡ map f (take (i + 1) ys)
front_more f xs ys i d y below other front rest is =
    let last : y ≡ f (get_or ys i d) = is ∙ ap f (same_here xs ys i d rest) in
    take_more_set xs i y below ∙ ap (λ l. l ++ y ∷ []) front ∙ ap (λ z. map f (take i ys) ++ z ∷ []) last ∙ sym (map-append f (take i ys) (get_or ys i d ∷ [])) ∙ sym (ap (λ l. map f l) (take_more ys i d other))

-- a change at a place leaves the rest behind it
pub rest_more : {X : Type 0} (xs ys : List X) (i : ℕ) (y : X) → drop i xs ≡ drop i ys → drop (i + 1) (set xs i y) ≡ drop (i + 1) ys
rest_more xs ys i y rest = drop-set-lt (i + 1) xs i y (omega arith) ∙ drop_more_same xs ys i rest
