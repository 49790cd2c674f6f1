-- Lists that gain what others lose.
use Rattle.std.proofs.Common.{◌≡◌, ◌∙◌, List, [], ◌∷◌, ◌++◌, length, map, sym, ap, append_assoc, arith}
use Rattle.std.proofs.lemmas.List.{append-nil, map-append}

-- lists that were taken apart, from the back
pub gained_last : {X Y : Type 0} (f : X → Y) (xs front : List X) (x : X) (old mid new : List Y) → xs ≡ front ++ x ∷ [] → mid ≡ old ++ map f front → new ≡ mid ++ f x ∷ [] → new ≡ old ++ map f xs
gained_last f xs front x old mid new split is pushed =
    pushed ∙ ap (λ l. l ++ f x ∷ []) is ∙ append_assoc old (map f front) (f x ∷ []) ∙ ap (λ l. old ++ l) (sym (map-append f front (x ∷ []))) ∙ ap (λ l. old ++ map f l) (sym split)

-- from a list of none nothing is gained
pub gained_none : {X Y : Type 0} (f : X → Y) (xs : List X) (old : List Y) → length xs ≡ 0 → old ≡ old ++ map f xs
gained_none f [] old none = sym (append-nil old)
gained_none f (x ∷ xs) old none = absurd (omega (arith, none))
