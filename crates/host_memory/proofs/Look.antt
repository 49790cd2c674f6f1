-- A list that is searched by a key.
use Rattle.std.proofs.Common.{◌≡◌, ◌<◌, ◌⊎◌, inl, inr, ℕ, zero, suc, List, [], ◌∷◌, ◌++◌, length, set, get_or, take, Option, Some, None, IsSome, is_some, Bool, true, false, cond, refl, sym, ◌∙◌, ap, subst, arith}
use Rattle.std.specs.Option.{option_map}
use Rattle.host_memory.specs.Look.{look_up, place_by}

map_none : (o : Option ℕ) → option_map (λ i. suc i) o ≡ None → o ≡ None
map_none None is = refl
map_none (Some i) is = cc

map_some : (o : Option ℕ) (k : ℕ) → option_map (λ i. suc i) o ≡ Some k → (i : ℕ) × (k ≡ suc i) × (o ≡ Some i)
map_some None k is = cc
map_some (Some i) k is = (i, cc, refl)

cond_none : {A : Type 0} (b : Bool) (x : A) (o : Option A) → cond b (Some x) o ≡ None → (b ≡ false) × (o ≡ None)
cond_none true x o is = cc
cond_none false x o is = (refl, is)

cond_some : (b : Bool) (o : Option ℕ) (i : ℕ) → cond b (Some 0) o ≡ Some i → ((b ≡ true) × (i ≡ 0)) ⊎ ((b ≡ false) × (o ≡ Some i))
cond_some true o i is = inl (refl, cc)
cond_some false o i is = inr (refl, is)

twice : {A : Type 0} (b : Bool) (x y z : A) → cond b x z ≡ cond b x (cond b y z)
twice true x y z = refl
twice false x y z = refl

swapped : {A : Type 0} (b c : Bool) (x y z : A) → (b ≡ true → c ≡ true → ⊥) → cond b x (cond c y z) ≡ cond c y (cond b x z)
swapped true true x y z apart = absurd (apart refl refl)
swapped true false x y z apart = refl
swapped false true x y z apart = refl
swapped false false x y z apart = refl

some_first : (b : Bool) (old new : Option ℕ) → IsSome (cond b (Some 0) (option_map (λ i. suc i) old)) → (IsSome old → IsSome new) → IsSome (cond b (Some 0) (option_map (λ i. suc i) new))
some_first true old new is later = refl
some_first false None new is later = cc
some_first false (Some i) None is later = absurd (not_none (later refl))
  where
    not_none : IsSome {T = ℕ} None → ⊥
    not_none has = cc
some_first false (Some i) (Some k) is later = refl

module _ {A K V : Type 0} (same : K → K → Bool) (same_is : (a b : K) → same a b ≡ true → a ≡ b) (same_self : (a : K) → same a a ≡ true) (key : A → K) (value : A → V) (other : V) where
  abbrev look : List A → K → V
  look = look_up same key value other

  abbrev place : List A → K → Option ℕ
  place = place_by same key

  -- one key isn't two others at once
  apart : (n k m : K) → same k m ≡ false → same n m ≡ true → same n k ≡ true → ⊥
  apart n k m differ is_m is_k =
      let equal : k ≡ m = sym (same_is n k is_k) ∙ same_is n m is_m in
      let itself : same k m ≡ true = let P : K → Type 0 = λ x. same k x ≡ true in subst P equal (same_self k) in
      cc

  -- where no earlier item has the key and this one has it, it is at this place
  pub place_found : (items : List A) (k : K) (i : ℕ) (d : A) → i < length items → place (take i items) k ≡ None → same k (key (get_or items i d)) ≡ true → place items k ≡ Some i
  place_found [] k i d below none is = absurd (omega (arith, below))
  place_found (x ∷ xs) k zero d below none is = ap (λ (b : Bool). cond b (Some 0) (option_map (λ i. suc i) (place xs k))) is
  place_found (x ∷ xs) k (suc i) d below none is =
      let parts = cond_none (same k (key x)) 0 (option_map (λ i. suc i) (place (take i xs) k)) none in
      let later = place_found xs k i d (omega (arith, below)) (map_none (place (take i xs) k) parts.1) is in
      ap (λ (b : Bool). cond b (Some 0) (option_map (λ i. suc i) (place xs k))) parts.0 ∙ ap (λ (o : Option ℕ). option_map (λ i. suc i) o) later

  -- where no earlier item has the key and this one neither, none up to it has
  pub place_more : (items : List A) (k : K) (i : ℕ) (d : A) → i < length items → place (take i items) k ≡ None → same k (key (get_or items i d)) ≡ false → place (take (suc i) items) k ≡ None
  place_more [] k i d below none isnt = absurd (omega (arith, below))
  place_more (x ∷ xs) k zero d below none isnt = ap (λ (b : Bool). cond b (Some 0) None) isnt
  place_more (x ∷ xs) k (suc i) d below none isnt =
      let parts = cond_none (same k (key x)) 0 (option_map (λ i. suc i) (place (take i xs) k)) none in
      let later = place_more xs k i d (omega (arith, below)) (map_none (place (take i xs) k) parts.1) isnt in
      ap (λ (b : Bool). cond b (Some 0) (option_map (λ i. suc i) (place (take (suc i) xs) k))) parts.0 ∙ ap (λ (o : Option ℕ). option_map (λ i. suc i) o) later

  -- no item of that key
  pub not_placed : (items : List A) (k : K) → place items k ≡ None → look items k ≡ other
  not_placed [] k none = refl
  not_placed (x ∷ xs) k none =
      let parts = cond_none (same k (key x)) 0 (option_map (λ i. suc i) (place xs k)) none in
      ap (λ (b : Bool). cond b (value x) (look xs k)) parts.0 ∙ not_placed xs k (map_none (place xs k) parts.1)

  pub record Placed (items : List A) (k : K) (i : ℕ) : Type 0 where
    pub below : i < length items
    pub found : (d : A) → look items k ≡ value (get_or items i d)
    pub named : (d : A) → key (get_or items i d) ≡ k

  -- at the place of a key there is its item, which the search finds
  pub placed : (items : List A) (k : K) (i : ℕ) → place items k ≡ Some i → Placed items k i
  placed [] k i is = cc
  placed (x ∷ xs) k i is = elim (cond_some (same k (key x)) (option_map (λ i. suc i) (place xs k)) i is) [
    | inl here ↦ record {
      below = omega (arith, here.1);
      found = λ d. ap (λ (b : Bool). cond b (value x) (look xs k)) here.0 ∙ ap (λ (j : ℕ). value (get_or (x ∷ xs) j d)) (sym here.1);
      named = λ d. ap (λ (j : ℕ). key (get_or (x ∷ xs) j d)) here.1 ∙ sym (same_is k (key x) here.0);
    }
    | inr there ↦
        let next = map_some (place xs k) i there.1 in
        let later = placed xs k next.0 next.2 in
        record {
          below = omega (arith, later.below, next.1);
          found = λ d. ap (λ (b : Bool). cond b (value x) (look xs k)) there.0 ∙ later.found d ∙ ap (λ (j : ℕ). value (get_or (x ∷ xs) j d)) (sym next.1);
          named = λ d. ap (λ (j : ℕ). key (get_or (x ∷ xs) j d)) next.1 ∙ later.named d;
        }
  ]

  -- the first item of a key is replaced by another one of it
  pub look-set : (items : List A) (k : K) (i : ℕ) (item : A) → place items k ≡ Some i → key item ≡ k → (n : K) → look (set items i item) n ≡ cond (same n k) (value item) (look items n)
  look-set [] k i item is named n = cc
  look-set (x ∷ xs) k i item is named n = elim (cond_some (same k (key x)) (option_map (λ i. suc i) (place xs k)) i is) [
    | inl here ↦
        let first : key x ≡ k = sym (same_is k (key x) here.0) in
        ap (λ (j : ℕ). look (set (x ∷ xs) j item) n) here.1
        ∙ ap (λ (m : K). cond (same n m) (value item) (look xs n)) named
        ∙ twice (same n k) (value item) (value x) (look xs n)
        ∙ ap (λ (m : K). cond (same n k) (value item) (cond (same n m) (value x) (look xs n))) (sym first)
    | inr there ↦
        let next = map_some (place xs k) i there.1 in
        ap (λ (j : ℕ). look (set (x ∷ xs) j item) n) next.1
        ∙ ap (λ (v : V). cond (same n (key x)) (value x) v) (look-set xs k next.0 item next.2 named n)
        ∙ swapped (same n (key x)) (same n k) (value x) (value item) (look xs n) (apart n k (key x) there.0)
  ]

  -- and every key has the place that it had
  pub place-set : (items : List A) (k : K) (i : ℕ) (item : A) → place items k ≡ Some i → key item ≡ k → (n : K) → place (set items i item) n ≡ place items n
  place-set [] k i item is named n = cc
  place-set (x ∷ xs) k i item is named n = elim (cond_some (same k (key x)) (option_map (λ i. suc i) (place xs k)) i is) [
    | inl here ↦
        let first : key item ≡ key x = named ∙ same_is k (key x) here.0 in
        ap (λ (j : ℕ). place (set (x ∷ xs) j item) n) here.1
        ∙ ap (λ (m : K). cond (same n m) (Some 0) (option_map (λ i. suc i) (place xs n))) first
    | inr there ↦
        let next = map_some (place xs k) i there.1 in
        ap (λ (j : ℕ). place (set (x ∷ xs) j item) n) next.1
        ∙ ap (λ (o : Option ℕ). cond (same n (key x)) (Some 0) (option_map (λ i. suc i) o)) (place-set xs k next.0 item next.2 named n)
  ]

  -- an item of a new key
  pub look-push : (items : List A) (item : A) → place items (key item) ≡ None → (n : K) → look (items ++ item ∷ []) n ≡ cond (same n (key item)) (value item) (look items n)
  look-push [] item none n = refl
  look-push (x ∷ xs) item none n =
      let parts = cond_none (same (key item) (key x)) 0 (option_map (λ i. suc i) (place xs (key item))) none in
      ap (λ (v : V). cond (same n (key x)) (value x) v) (look-push xs item (map_none (place xs (key item)) parts.1) n)
      ∙ swapped (same n (key x)) (same n (key item)) (value x) (value item) (look xs n) (apart n (key item) (key x) parts.0)

  -- after an item of another key each is where it was
  pub place-push-other : (items : List A) (item : A) (n : K) → same n (key item) ≡ false → place (items ++ item ∷ []) n ≡ place items n
  place-push-other [] item n differ = ap (λ (b : Bool). cond {A = Option ℕ} b (Some 0) None) differ
  place-push-other (x ∷ xs) item n differ = ap (λ (o : Option ℕ). cond (same n (key x)) (Some 0) (option_map (λ i. suc i) o)) (place-push-other xs item n differ)

  -- an item that was added can be found by its key
  pub place-pushed : (items : List A) (item : A) → IsSome (place (items ++ item ∷ []) (key item))
  place-pushed [] item = ap (λ (b : Bool). is_some {T = ℕ} (cond b (Some 0) None)) (same_self (key item))
  place-pushed (x ∷ xs) item = found (same (key item) (key x)) (place (xs ++ item ∷ []) (key item)) (place-pushed xs item)
    where
      found : (b : Bool) (o : Option ℕ) → IsSome o → IsSome (cond b (Some 0) (option_map (λ i. suc i) o))
      found true o is = refl
      found false None is = cc
      found false (Some i) is = refl
