-- Passes are dealt one by one.
use Rattle.std.proofs.Common.{◌≡◌, ◌∙◌, ◌<◌, ◌+◌, ◌==◌, ℕ, List, [], ◌∷◌, ◌++◌, true, false, cond, length, length-append, get_or, set, refl, sym, ap, eq-eqb, arith}
use mathlib.Core.Logic.{dite}
use native.Mathlib.Decide.{ℕ_discrete}
use Rattle.std.proofs.Math.Decide.{dec_lt}
use Rattle.std.proofs.lemmas.Bool.{ne_eqb}
use Rattle.std.proofs.lemmas.List.Sums.{sum_by-append}
use Rattle.std.proofs.lemmas.List.{get_or-map, get_or-set_other, get_or-set_same, get_or_past, length-map, map-set}
use Rattle.std.specs.declared.alloc.Global.{Global}
use Rattle.std.specs.declared.vec.Vec.{Vec}
use Rattle.shared_channel.specs.Passes.{Known}
use Rattle.run_tracks.specs.Deals.{Draws, Suffice, count_of, hand_at, hands_of}

one_yes : (n : ℕ) → count_of n (n ∷ []) ≡ 1
one_yes n = let is : (n == n) ≡ true = eq-eqb n n refl in rw is refl

one_no : (n m : ℕ) → (m ≡ n → ⊥) → count_of n (m ∷ []) ≡ 0
one_no n m apart = let is : (m == n) ≡ false = ne_eqb m n apart in rw is refl

count_same : (n : ℕ) (places : List ℕ) → count_of n (n ∷ places) ≡ 1 + count_of n places
count_same n places = sum_by-append (λ p. cond (p == n) 1 0) (n ∷ []) places ∙ ap (λ (k : ℕ). k + count_of n places) (one_yes n)

count_other : (n m : ℕ) (places : List ℕ) → (m ≡ n → ⊥) → count_of n (m ∷ places) ≡ count_of n places
count_other n m places apart = sum_by-append (λ p. cond (p == n) 1 0) (m ∷ []) places ∙ ap (λ (k : ℕ). k + count_of n places) (one_no n m apart) ∙ omega arith

-- there is one of the first place's channel
pub first_some : (hands : List (List Known)) (first : ℕ) (rest : List ℕ) → Suffice hands (first ∷ rest) → 0 < length (hand_at hands first)
first_some hands first rest enough = let e = enough first in let c = count_same first rest in omega (arith, e, c)

-- a place with a hand is there
pub is_there : (hands : List (List Known)) (place : ℕ) → 0 < length (hand_at hands place) → place < length hands
is_there hands place some =
    dite (dec_lt place (length hands)) (λ is. is)
    (λ beyond. let none : hand_at hands place ≡ [] = get_or_past hands place [] (omega (arith, beyond)) in absurd (omega (arith, some, ap length none)))

-- where the passes suffice, the first place is one of a channel
pub first_there : (hands : List (Vec Known Global)) (first : ℕ) (rest : List ℕ) → Suffice (hands_of hands) (first ∷ rest) → first < length hands
first_there hands first rest enough =
    let there = is_there (hands_of hands) first (first_some (hands_of hands) first rest enough) in
    let many : length (hands_of hands) ≡ length hands = length-map hands (λ (h : Vec Known Global). h.items) in
    omega (arith, there, many)

-- what is left suffices for the others
pub still_enough : (hands new : List (List Known)) (first : ℕ) (rest : List ℕ) (pass : Known) → Suffice hands (first ∷ rest) → Draws hands first pass new → Suffice new rest
still_enough hands new first rest pass enough d = λ place.
    dite (ℕ_discrete place first)
    (λ same.
    let left : hand_at new place ≡ d.rest = ap (λ (n : List (List Known)). hand_at n place) d.left ∙ ap (λ (k : ℕ). get_or (set hands first d.rest) k []) same ∙ get_or-set_same hands first d.rest [] d.there in
    let many : length (hand_at hands first) ≡ length d.rest + 1 = ap length d.last ∙ length-append d.rest (pass ∷ []) in
    let e = enough first in
    let c = count_same first rest in
    let at : count_of place rest ≡ count_of first rest = ap (λ (k : ℕ). count_of k rest) same in
    omega (arith, e, c, many, at, ap length left))
    (λ other.
    let left : hand_at new place ≡ hand_at hands place = ap (λ (n : List (List Known)). hand_at n place) d.left ∙ get_or-set_other hands first place d.rest [] other in
    let e = enough place in
    let c = count_other place first rest (λ is. other (sym is)) in
    omega (arith, e, c, ap length left))

-- a pass was taken out of a list of hands
pub drawn : (hands : List (Vec Known Global)) (place : ℕ) (d v : Vec Known Global) (pass : Known) → place < length hands
    → (get_or hands place d).items ≡ v.items ++ pass ∷ [] → Draws (hands_of hands) place pass (hands_of (set hands place v))
drawn hands place d v pass there last = record {
  rest = v.items;
  there = let many : length (hands_of hands) ≡ length hands = length-map hands (λ (h : Vec Known Global). h.items) in omega (arith, there, many);
  last = get_or-map (λ (h : Vec Known Global). h.items) hands place d [] there ∙ last;
  left = map-set (λ (h : Vec Known Global). h.items) hands place v;
}

-- places in two parts
pub count_joined : (place : ℕ) (front back : List ℕ) → count_of place (front ++ back) ≡ count_of place front + count_of place back
count_joined place front back = sum_by-append (λ p. cond (p == place) 1 0) front back

-- One pass of one channel is dealt: that channel has one fewer left.
pub one_left : (hands new : List (List Known)) (at : ℕ) (pass : Known) → Draws hands at pass new → (place : ℕ)
    → length (hand_at hands place) ≡ length (hand_at new place) + count_of place (at ∷ [])
one_left hands new at pass d place =
    dite (ℕ_discrete place at)
    (λ same.
    let left : hand_at new place ≡ d.rest = ap (λ (n : List (List Known)). hand_at n place) d.left ∙ ap (λ (k : ℕ). get_or (set hands at d.rest) k []) same ∙ get_or-set_same hands at d.rest [] d.there in
    let before : length (hand_at hands place) ≡ length (hand_at hands at) = ap (λ (k : ℕ). length (hand_at hands k)) same in
    let many : length (hand_at hands at) ≡ length d.rest + 1 = ap length d.last ∙ length-append d.rest (pass ∷ []) in
    let one : count_of place (at ∷ []) ≡ 1 = ap (λ (k : ℕ). count_of place (k ∷ [])) (sym same) ∙ one_yes place in
    omega (arith, many, before, one, ap length left))
    (λ other.
    let left : hand_at new place ≡ hand_at hands place = ap (λ (n : List (List Known)). hand_at n place) d.left ∙ get_or-set_other hands at place d.rest [] other in
    let none : count_of place (at ∷ []) ≡ 0 = one_no place at (λ is. other (sym is)) in
    omega (arith, none, ap length left))
