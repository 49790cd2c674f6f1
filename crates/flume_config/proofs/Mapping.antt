-- What a key maps, where it begins so.
use Rattle.std.proofs.Common.{◌≡◌, ℕ, true, false, List, [], ◌∷◌, ◌++◌, map, drop, length, nat_eq, refl, sym, ap, ◌∙◌}
use Rattle.std.proofs.lemmas.List.{append-nil, map-append}
use Rattle.std.proofs.lemmas.Slice.Eq.{starts_is}
use Rattle.std.proofs.lemmas.Bool.Decides.{Decides-eqb}
use Rattle.std.specs.List.{starts_with}
use Rattle.std.specs.declared.string.String.{String}
use Rattle.std.specs.declared.vec.Vec.{Vec}
use Rattle.std.specs.declared.alloc.Global.{Global}
use Rattle.prop_text.specs.Pairs.{Pair}
use Rattle.plan_judging.specs.Components.{once}
use Rattle.plan_judging.specs.Words.{words}
use Rattle.agent_plan.specs.Values.{place_of, mapped_at, seen_pair}

-- a pair whose key begins otherwise maps nothing
pub maps_none : (others : List (List ℕ)) (front : List ℕ) (p : Pair) (old : List (List ℕ × List ℕ)) → starts_with nat_eq p.key front ≡ false → old ≡ old ++ mapped_at others front p
maps_none others front p old e = rw e (sym (append-nil old))

-- a pair whose key begins so maps what is behind that to the places of its words
pub maps_one : (others : List (List ℕ)) (front : List ℕ) (p : Pair) (old new : List (String Global × Vec ℕ Global)) (behind places : List ℕ) (pair : String Global × Vec ℕ Global) (k : ℕ) → new ≡ old ++ pair ∷ [] → seen_pair pair ≡ (behind, places) → behind ≡ drop k p.key → k ≡ length front → p.key ≡ front ++ drop k p.key → places ≡ map (place_of others) (once (words p.value)) → map seen_pair new ≡ map seen_pair old ++ mapped_at others front p
maps_one others front p old new behind places pair k is seen behind_is k_is key_is places_is =
    let begins : starts_with nat_eq p.key front ≡ true = (starts_is Decides-eqb p.key front (starts_with nat_eq p.key front) refl).1 (drop k p.key) key_is in
    let front_is : behind ≡ drop (length front) p.key = behind_is ∙ ap (λ (n : ℕ). drop n p.key) k_is in
    ap (map seen_pair) is ∙ map-append seen_pair old (pair ∷ [])
    ∙ rw begins (ap (λ (x : List ℕ × List ℕ). map seen_pair old ++ x ∷ []) (seen ∙ (λ i. (front_is i, places_is i))))
