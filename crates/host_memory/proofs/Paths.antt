-- Objects that are searched by a path.
use Rattle.std.proofs.Common.{◌≡◌, ◌<◌, ◌∙◌, ap, sym, ℕ, suc, List, [], ◌∷◌, ◌++◌, length, set, get_or, take, refl, Option, Some, None, IsSome, is_some, Bool, true, false, cond, bytes_eq, string_bytes}
use Rattle.std.proofs.lemmas.Slice.Eq.{bytes_eq-Decides}
use Rattle.host_memory.specs.declared.named.Named.{Named}
use Rattle.host_memory.specs.Folders.{is_in, place_in, with_object, IsAt}
use Rattle.host_memory.specs.Look.{look_up}
use Rattle.host_memory.proofs.Look as look

-- paths that compare alike are one
pub path_is : (a b : List ℕ) → bytes_eq a b ≡ true → a ≡ b
path_is a b = (bytes_eq-Decides a b).0

-- a path compares alike with itself
pub path_self : (a : List ℕ) → bytes_eq a a ≡ true
path_self a = (bytes_eq-Decides a a).1 refl

-- different paths do not compare alike
pub path_other : (a b : List ℕ) → (a ≡ b → ⊥) → bytes_eq a b ≡ false
path_other a b differ = by_cases (bytes_eq a b) refl
  where
    by_cases : (t : Bool) → bytes_eq a b ≡ t → bytes_eq a b ≡ false
    by_cases true is = absurd (differ (path_is a b is))
    by_cases false is = is

module _ {T : Type 0} where
  abbrev name_of : Named T → List ℕ
  name_of named = string_bytes named.path

  abbrev nothing_of : Named T → Unit {0}
  nothing_of named = tt

  -- where no earlier object has the path and this one has it, it is at this place
  pub place_found : (objects : List (Named T)) (path : List ℕ) (i : ℕ) (d : Named T) → i < length objects → place_in (take i objects) path ≡ None → bytes_eq path (string_bytes (get_or objects i d).path) ≡ true → place_in objects path ≡ Some i
  place_found = look.place_found bytes_eq path_is path_self name_of nothing_of tt

  -- where no earlier object has the path and this one neither, none up to it has
  pub place_more : (objects : List (Named T)) (path : List ℕ) (i : ℕ) (d : Named T) → i < length objects → place_in (take i objects) path ≡ None → bytes_eq path (string_bytes (get_or objects i d).path) ≡ false → place_in (take (suc i) objects) path ≡ None
  place_more = look.place_more bytes_eq path_is path_self name_of nothing_of tt

  -- an object that is added leaves each other path its place
  pub place-push-other : (objects : List (Named T)) (named : Named T) (p : List ℕ) → (p ≡ string_bytes named.path → ⊥) → place_in (objects ++ named ∷ []) p ≡ place_in objects p
  place-push-other objects named p differ = look.place-push-other bytes_eq path_is path_self name_of nothing_of tt objects named p (path_other p (string_bytes named.path) differ)

  -- an object that was added can be found by its path
  pub place-pushed : (objects : List (Named T)) (named : Named T) → IsSome (place_in (objects ++ named ∷ []) (string_bytes named.path))
  place-pushed = look.place-pushed bytes_eq path_is path_self name_of nothing_of tt

module _ {T V : Type 0} (home : Option T → V) (other : V) where
  abbrev path_of : Named T → List ℕ
  path_of named = string_bytes named.path

  abbrev home_of : Named T → V
  home_of named = home named.object

  -- what the first object of a path shows
  abbrev pub told_at : List (Named T) → List ℕ → V
  told_at = look_up bytes_eq path_of home_of other

  pub record Placed (objects : List (Named T)) (path : List ℕ) (i : ℕ) : Type 0 where
    pub below : i < length objects
    pub found : (d : Named T) → told_at objects path ≡ home (get_or objects i d).object
    pub named : (d : Named T) → string_bytes (get_or objects i d).path ≡ path

  -- at the place of a path there is its object
  pub placed : (objects : List (Named T)) (path : List ℕ) (i : ℕ) → place_in objects path ≡ Some i → Placed objects path i
  placed objects path i is = let p = look.placed bytes_eq path_is path_self path_of home_of other objects path i is in record { below = p.below; found = p.found; named = p.named }

  -- of a path that has no place nothing is shown
  pub not_placed : (objects : List (Named T)) (path : List ℕ) → place_in objects path ≡ None → told_at objects path ≡ other
  not_placed = look.not_placed bytes_eq path_is path_self path_of home_of other

  -- the first object of a path is replaced
  pub told-set : (objects : List (Named T)) (path : List ℕ) (i : ℕ) (was : Named T) (object : Option T) → place_in objects path ≡ Some i → IsAt objects i was
      → (p : List ℕ) → told_at (set objects i (with_object was object)) p ≡ cond (bytes_eq p path) (home object) (told_at objects p)
  told-set objects path i was object is at = look.look-set bytes_eq path_is path_self path_of home_of other objects path i (with_object was object) is (ap (λ (n : Named T). string_bytes n.path) at ∙ (placed objects path i is).named was)

  -- and every path has the place that it had
  pub place-set : (objects : List (Named T)) (path : List ℕ) (i : ℕ) (was : Named T) (object : Option T) → place_in objects path ≡ Some i → IsAt objects i was
      → (p : List ℕ) → place_in (set objects i (with_object was object)) p ≡ place_in objects p
  place-set objects path i was object is at = look.place-set bytes_eq path_is path_self path_of home_of other objects path i (with_object was object) is (ap (λ (n : Named T). string_bytes n.path) at ∙ (placed objects path i is).named was)

  -- an object of a new path
  pub told-push : (objects : List (Named T)) (named : Named T) → place_in objects (string_bytes named.path) ≡ None
      → (p : List ℕ) → told_at (objects ++ named ∷ []) p ≡ cond (bytes_eq p (string_bytes named.path)) (home named.object) (told_at objects p)
  told-push = look.look-push bytes_eq path_is path_self path_of home_of other

  not_at : (p path : List ℕ) (x y : V) → (p ≡ path → ⊥) → cond (bytes_eq p path) x y ≡ y
  not_at p path x y differ = ap (λ (b : Bool). cond b x y) (path_other p path differ)

  -- what handing out the object of a path does: what it told, and what the others show
  pub record Out (objects new : List (Named T)) (path : List ℕ) (value : V) : Type 0 where
    pub told : told_at objects path ≡ value
    pub others : (p : List ℕ) → (p ≡ path → ⊥) → told_at new p ≡ told_at objects p
    pub opened : IsSome (place_in new path)
    pub others_opened : (p : List ℕ) → (p ≡ path → ⊥) → is_some (place_in new p) ≡ is_some (place_in objects p)

  -- an object is handed out from its place
  pub taken : (objects new : List (Named T)) (path : List ℕ) (i : ℕ) (was : Named T) → place_in objects path ≡ Some i → IsAt objects i was → new ≡ set objects i (with_object was None)
      → Out objects new path (home was.object)
  taken objects new path i was is at new_is = record {
    told = (placed objects path i is).found was ∙ ap home_of (sym at);
    others = λ p differ. ap (λ (l : List (Named T)). told_at l p) new_is ∙ told-set objects path i was None is at p ∙ not_at p path (home None) (told_at objects p) differ;
    opened = rw (new_is, place-set objects path i was None is at path, is) refl;
    others_opened = λ p differ. ap (λ (l : List (Named T)). is_some (place_in l p)) new_is ∙ ap is_some (place-set objects path i was None is at p);
  }

  -- an object is added of a path of which nothing was told, and the others are as before
  pub added : (objects new : List (Named T)) (path : List ℕ) (named : Named T) → place_in objects path ≡ None → string_bytes named.path ≡ path → new ≡ objects ++ named ∷ [] → Out objects new path other
  added objects new path named none named_is new_is = record {
    told = not_placed objects path none;
    others = λ p differ. ap (λ (l : List (Named T)). told_at l p) new_is ∙ told-push objects named (rw named_is none) p ∙ rw named_is (not_at p path (home named.object) (told_at objects p) differ);
    opened = rw (new_is, ← named_is) (place-pushed objects named);
    others_opened = λ p differ. ap (λ (l : List (Named T)). is_some (place_in l p)) new_is ∙ ap is_some (place-push-other objects named p (λ is. differ (is ∙ named_is)));
  }

  -- what giving one back does
  pub record Back (objects new : List (Named T)) (path : List ℕ) (value : V) : Type 0 where
    pub told : told_at new path ≡ value
    pub others : (p : List ℕ) → (p ≡ path → ⊥) → told_at new p ≡ told_at objects p
    pub opened : (p : List ℕ) → is_some (place_in new p) ≡ is_some (place_in objects p)

  -- an object is given back at its path's place
  pub given : (objects new : List (Named T)) (path : List ℕ) (i : ℕ) (was : Named T) (object : T) → place_in objects path ≡ Some i → IsAt objects i was → new ≡ set objects i (with_object was (Some object))
      → Back objects new path (home (Some object))
  given objects new path i was object is at new_is = record {
    told = ap (λ (l : List (Named T)). told_at l path) new_is ∙ told-set objects path i was (Some object) is at path ∙ ap (λ (b : Bool). cond b (home (Some object)) (told_at objects path)) (path_self path);
    others = λ p differ. ap (λ (l : List (Named T)). told_at l p) new_is ∙ told-set objects path i was (Some object) is at p ∙ not_at p path (home (Some object)) (told_at objects p) differ;
    opened = λ p. ap (λ (l : List (Named T)). is_some (place_in l p)) new_is ∙ ap is_some (place-set objects path i was (Some object) is at p);
  }

  -- nothing was handed out, since it was out
  pub unchanged : (objects new : List (Named T)) (path : List ℕ) (i : ℕ) (was : Named T) → place_in objects path ≡ Some i → IsAt objects i was → new ≡ set objects i (with_object was None) → None ≡ was.object
      → told_at new ≡ told_at objects
  unchanged objects new path i was is at new_is none = λ j p. (each p (bytes_eq p path) refl) j
    where
      each : (p : List ℕ) (b : Bool) → bytes_eq p path ≡ b → told_at new p ≡ told_at objects p
      each p true same = ap (λ (l : List (Named T)). told_at l p) new_is ∙ told-set objects path i was None is at p ∙ ap (λ (b : Bool). cond b (home None) (told_at objects p)) same ∙ ap home none ∙ ap home_of at ∙ sym ((placed objects path i is).found was) ∙ ap (λ (q : List ℕ). told_at objects q) (sym (path_is p path same))
      each p false same = ap (λ (l : List (Named T)). told_at l p) new_is ∙ told-set objects path i was None is at p ∙ ap (λ (b : Bool). cond b (home None) (told_at objects p)) same

  -- and each can still be given back
  pub unchanged_opened : (objects new : List (Named T)) (path : List ℕ) (i : ℕ) (was : Named T) → place_in objects path ≡ Some i → IsAt objects i was → new ≡ set objects i (with_object was None)
      → is_in new ≡ is_in objects
  unchanged_opened objects new path i was is at new_is = λ j p. (ap (λ (l : List (Named T)). is_in l p) new_is ∙ ap is_some (place-set objects path i was None is at p)) j
