-- A component for each name, one after another.
use Rattle.std.proofs.Common.{ℕ, ◌+◌, ◌≤◌, ◌<◌, get_or, drop, length, subst, arith, List, [], ◌∷◌, ◌++◌, sym, append-nil, append_assoc}
use Rattle.std.proofs.lemmas.List.{drop_all, length-map}
use Rattle.std.specs.Borrow.{Bor}
use Rattle.prop_text.specs.Views.{texts}
use Rattle.plan_judging.proofs.Joins.{drop_texts}
use Rattle.agent_plan.specs.Values.{Match}

-- a loop that makes a component for each name
pub record Makes {A : Type 0} (R : List ℕ → A → Type 0) (n : ℕ) (names : List (Bor (List ℕ))) (made : List A) : Type 0 where
  pub rest : (more : List A) → Match R (drop n (texts names)) more → Match R (texts names) (made ++ more)

-- before the first name no component is made
pub makes : {A : Type 0} (R : List ℕ → A → Type 0) (names : List (Bor (List ℕ))) → Makes R 0 names []
makes R names = record { rest = λ more h. h }

-- a component for one name more
pub makes_on : {A : Type 0} {R : List ℕ → A → Type 0} {n : ℕ} {names : List (Bor (List ℕ))} {made : List A} (d : Bor (List ℕ)) (x : A) → n < length names → Makes R n names made → R (get_or names n d).now x → Makes R (n + 1) names (made ++ x ∷ [])
makes_on {A} {R} {n} {names} {made} d x lt before is = record {
  rest = λ more h.
      let whole = before.rest (x ∷ more) (subst (λ (l : List (List ℕ)). Match R l (x ∷ more)) (sym (drop_texts names n d lt)) (is, h)) in
      subst (Match R (texts names)) (sym (append_assoc made (x ∷ []) more)) whole;
}

-- after the last name there is a component for each, in order
pub made_all : {A : Type 0} {R : List ℕ → A → Type 0} {n : ℕ} {names : List (Bor (List ℕ))} {made : List A} → length names ≤ n → Makes R n names made → Match R (texts names) made
made_all {A} {R} {n} {names} {made} past before =
    let none = drop_all n (texts names) (omega (arith, past, length-map names (λ (x : Bor (List ℕ)). x.now))) in
    subst (Match R (texts names)) (append-nil made) (before.rest [] (subst (λ (l : List (List ℕ)). Match R l []) (sym none) tt))
