-- The place of a name in a set of names.
use Rattle.std.proofs.Common.{◌≡◌, ℕ, ◌+◌, not, nat_lt, length, List, [], ◌∷◌, None, Some, refl, sym, ap, ◌∙◌, arith, cond, ⊎_elim}
use Rattle.std.proofs.lemmas.Bool.{cond-true, cond-false, cases_Bool, ltb-false}
use Rattle.std.proofs.lemmas.List.Sums.{prefix_len-le-length}
use Rattle.std.specs.Borrow.{Bor}
use Rattle.std.specs.List.{prefix_len, position}
use Rattle.std.specs.Str.{bytes_eq}
use Rattle.prop_text.specs.Views.{texts}
use Rattle.agent_plan.specs.Values.{place_of}

abbrev place_in : List ℕ → List (Bor (List ℕ)) → ℕ
place_in name keys = prefix_len (λ k. not (bytes_eq name k.now)) keys

places_are : (name : List ℕ) (keys : List (Bor (List ℕ))) → place_in name keys ≡ place_of (texts keys) name
places_are name [] = refl
places_are name (k ∷ ks) = ap (λ n. cond (not (bytes_eq name k.now)) (1 + n) 0) (places_are name ks)

same_some : {a b : ℕ} → Some a ≡ Some b → a ≡ b
same_some e = cc

none_some : {a : ℕ} → None ≡ Some a → ⊥
none_some e = cc

-- where the set says a place, it is that of the name
pub place_found : (name : List ℕ) (keys : List (Bor (List ℕ))) (found : ℕ) → Some found ≡ position (λ k. bytes_eq name k.now) keys → found ≡ place_of (texts keys) name
place_found name keys found is =
    ⊎_elim
    (λ t. same_some (is ∙ cond-true (nat_lt (place_in name keys) (length keys)) (Some (place_in name keys)) None t) ∙ places_are name keys)
    (λ f. absurd (none_some (sym (is ∙ cond-false (nat_lt (place_in name keys) (length keys)) (Some (place_in name keys)) None f))))
    (cases_Bool (nat_lt (place_in name keys) (length keys)))

-- where it says none, the name stands behind all of them
pub place_missing : (name : List ℕ) (keys : List (Bor (List ℕ))) → None ≡ position (λ k. bytes_eq name k.now) keys → length keys ≡ place_of (texts keys) name
place_missing name keys is =
    ⊎_elim
    (λ t. absurd (none_some (is ∙ cond-true (nat_lt (place_in name keys) (length keys)) (Some (place_in name keys)) None t)))
    (λ f.
    let more = ltb-false (place_in name keys) (length keys) f in
    let most = prefix_len-le-length (λ (k : Bor (List ℕ)). not (bytes_eq name k.now)) keys in
    let all : length keys ≡ place_in name keys = omega (arith, more, most) in
    all ∙ places_are name keys)
    (cases_Bool (nat_lt (place_in name keys) (length keys)))
