-- What interceptors took, one part after the other.
use Rattle.std.proofs.Common.{◌≡◌, ◌∙◌, ◌++◌, ◌+◌, ◌<◌, ℕ, suc, cond, List, [], ◌∷◌, flat_map, fold, get_or, length, map, take, Option, Some, None, refl, sym, ap, subst, append_assoc}
use Rattle.std.proofs.lemmas.List.{append-nil, length-map, take_more}
use Rattle.std.proofs.lemmas.List.Concat.{flat_map-append}
use Rattle.std.proofs.lemmas.List.Sums.{fold-append}
use Rattle.plan_objects.specs.Named.{Named}
use Rattle.agent_plan.specs.declared.plan.SourcePlan.{SourcePlan}
use Rattle.agent_plan.specs.declared.plan.StepPlan.{StepPlan}
use Rattle.agent_plan.specs.declared.plan.StepPlan.TheVariants.{Step, Regex, Plugin}
use Rattle.plan_objects.specs.Asks.{AreClaimed, Ask, IsTaken, Joined, Takes, asks_of_source, asks_of_step, found, given, is_met, left, misses, names_of, nearer, nearest, step_asks, unmet}
use Rattle.plan_objects.proofs.Taking.{missed, nearest_after, nil_both, taken_leaves}

-- what the items of a list ask for, as far as one and with it
pub asks_next : {A : Type 0} (f : A → List Ask) (xs : List A) (i : ℕ) (x : A) → i < length xs → x ≡ get_or xs i x → flat_map f (take (i + 1) xs) ≡ flat_map f (take i xs) ++ f x
asks_next {A} f xs i x below is =
    let front = flat_map f (take i xs) in
    ap (flat_map f) (take_more xs i x below) ∙ flat_map-append f (take i xs) (get_or xs i x ∷ [])
    ∙ ap (λ (l : List Ask). front ++ l) (append-nil (f (get_or xs i x))) ∙ ap (λ (y : A). front ++ f y) (sym is)

-- the names that are left once all of these asked
left_all : List (List ℕ) → List Ask → List (List ℕ)
left_all names [] = names
left_all names (a ∷ asks) = left_all (left names a.name) asks

unmet_both : (names : List (List ℕ)) (front back : List Ask) → unmet names (front ++ back) ≡ unmet names front ++ unmet (left_all names front) back
unfolding left_all
unmet_both names [] back = refl
unmet_both names (a ∷ front) back =
    let own = cond (is_met names a.name) [] (a.line ∷ []) in
    ap (λ (l : List ℕ). own ++ l) (unmet_both (left names a.name) front back)
    ∙ sym (append_assoc own (unmet (left names a.name) front) (unmet (left_all (left names a.name) front) back))

module _ {T : Type 0} where
  takes_leave : (asks : List Ask) (old new : List (Named T)) (taken : List (Option T)) → Takes asks old taken new → names_of new ≡ left_all (names_of old) asks
  unfolding left_all
  takes_leave [] old new [] are = ap (λ (l : List (Named T)). names_of l) are
  takes_leave [] old new (object ∷ taken) are = absurd are
  takes_leave (a ∷ asks) old new [] are = absurd are
  takes_leave (a ∷ asks) old new (object ∷ taken) (between, is, are) =
      takes_leave asks between new taken are ∙ ap (λ (l : List (List ℕ)). left_all l asks) (taken_leaves a.name old between object is)

  takes_both : (front back : List Ask) (old between new : List (Named T)) (first second : List (Option T)) → Takes front old first between → Takes back between second new
      → Takes (front ++ back) old (first ++ second) new
  takes_both [] back old between new [] second are then = subst (λ (l : List (Named T)). Takes back l second new) are then
  takes_both [] back old between new (object ∷ first) second are then = absurd are
  takes_both (a ∷ front) back old between new [] second are then = absurd are
  takes_both (a ∷ front) back old between new (object ∷ first) second (next, is, are) then = (next, is, takes_both front back next between new first second are then)

  -- none is asked for
  pub joined_none : (held : List (Named T)) (objects : List T) → Joined [] held held objects objects
  joined_none held objects = record { taken = []; takes = refl; joined = sym (append-nil objects) }

  -- one is, and was not there
  pub joined_one : (ask : Ask) (old new : List (Named T)) (before after : List T) (object : Option T) → IsTaken ask.name old object new → after ≡ before ++ given object
      → Joined (ask ∷ []) old new before after
  joined_one ask old new before after object is joined = record {
    taken = object ∷ [];
    takes = (new, is, refl);
    joined = joined ∙ ap (λ (l : List T). before ++ l) (sym (append-nil (given object)));
  }

  -- the nearest line that misses its object, after one was asked for
  pub nearest_one : (ask : Ask) (old new : List (Named T)) (object : Option T) (first : Option ℕ) → IsTaken ask.name old object new
      → nearest first (names_of old) (ask ∷ []) ≡ cond (misses ask.name (found object)) (nearer first ask.line) first
  nearest_one ask old new object first is =
      (λ i. fold nearer first (missed ask.name ask.line old new object is i ++ [])) ∙ nearest_after first ask.line [] (misses ask.name (found object))

  -- some, and then others
  pub joined_both : (front back : List Ask) (old between new : List (Named T)) (before inner after : List T) → Joined front old between before inner → Joined back between new inner after
      → Joined (front ++ back) old new before after
  joined_both front back old between new before inner after first second = record {
    taken = first.taken ++ second.taken;
    takes = takes_both front back old between new first.taken second.taken first.takes second.takes;
    joined =
        second.joined ∙ ap (λ (l : List T). l ++ flat_map given second.taken) first.joined
        ∙ append_assoc before (flat_map given first.taken) (flat_map given second.taken)
        ∙ ap (λ (l : List T). before ++ l) (sym (flat_map-append given first.taken second.taken));
  }

  -- and the nearest line
  pub nearest_both : (front back : List Ask) (old between : List (Named T)) (first next last : Option ℕ) {before inner : List T} → Joined front old between before inner
      → next ≡ nearest first (names_of old) front → last ≡ nearest next (names_of between) back → last ≡ nearest first (names_of old) (front ++ back)
  nearest_both front back old between first next last joined one other =
      let names = names_of old in
      other ∙ (λ i. fold nearer (one i) (unmet (takes_leave front old between joined.taken joined.takes i) back))
      ∙ sym (fold-append nearer first (unmet names front) (unmet (left_all names front) back))
      ∙ ap (fold nearer first) (sym (unmet_both names front back))

  -- ---- where each object was there

  found_one : (ask : Option (List ℕ)) (name : List ℕ) (line : ℕ) (old new : List (Named T)) (object : Option T) → ask ≡ Some name → IsTaken ask old object new
      → cond (is_met (names_of old) ask) [] (line ∷ []) ≡ [] → object ∷ [] ≡ map (λ (o : T). Some o) (given object)
  found_one None name line old new object named is none = absurd (cc)
  found_one (Some other) name line old new None named is none = absurd (let e : line ∷ [] ≡ [] = sym (missed (Some other) line old new None is) ∙ none in cc)
  found_one (Some other) name line old new (Some object) named is none = refl

AreNamed : List Ask → Type 0
AreNamed [] = Unit {0}
AreNamed (a ∷ asks) = ((name : List ℕ) × (a.name ≡ Some name)) × AreNamed asks

named_both : (front back : List Ask) → AreNamed front → AreNamed back → AreNamed (front ++ back)
unfolding AreNamed
named_both [] back are then = then
named_both (a ∷ front) back are then = (are.0, named_both front back are.1 then)

named_step : (step : StepPlan) → AreNamed (asks_of_step step)
unfolding AreNamed
named_step (Step one) = tt
named_step (Regex keys line) = tt
named_step (Plugin name line) = ((_, refl), tt)

named_steps : (steps : List StepPlan) → AreNamed (flat_map asks_of_step steps)
unfolding AreNamed
named_steps [] = tt
named_steps (step ∷ steps) = named_both (asks_of_step step) (flat_map asks_of_step steps) (named_step step) (named_steps steps)

named_sources : (sources : List SourcePlan) → AreNamed (step_asks sources)
unfolding AreNamed
named_sources [] = tt
named_sources (source ∷ sources) = named_both (asks_of_source source) (step_asks sources) (named_steps source.steps.items) (named_sources sources)

module _ {T : Type 0} where
  all_found : (asks : List Ask) (old new : List (Named T)) (taken : List (Option T)) → AreNamed asks → Takes asks old taken new → unmet (names_of old) asks ≡ []
      → taken ≡ map (λ (o : T). Some o) (flat_map given taken)
  unfolding AreNamed
  all_found [] old new [] named are none = refl
  all_found [] old new (object ∷ taken) named are none = absurd are
  all_found (a ∷ asks) old new [] named are none = absurd are
  all_found (a ∷ asks) old new (object ∷ taken) named (between, is, are) none =
      let both = nil_both (cond (is_met (names_of old) a.name) [] (a.line ∷ [])) (unmet (left (names_of old) a.name) asks) none in
      let rest = all_found asks between new taken named.1 are (ap (λ (l : List (List ℕ)). unmet l asks) (taken_leaves a.name old between object is) ∙ both.1) in
      one object (flat_map given taken) (found_one a.name named.0.0 a.line old between object named.0.1 is both.0) rest
    where
      one : (object : Option T) (others : List T) → object ∷ [] ≡ map (λ (o : T). Some o) (given object) → taken ≡ map (λ (o : T). Some o) others
          → object ∷ taken ≡ map (λ (o : T). Some o) (given object ++ others)
      one None others here rest = absurd (cc)
      one (Some o) others here rest = ap (λ (l : List (Option T)). Some o ∷ l) rest

  takes_many : (asks : List Ask) (old new : List (Named T)) (taken : List (Option T)) → Takes asks old taken new → length taken ≡ length asks
  takes_many [] old new [] are = refl
  takes_many [] old new (object ∷ taken) are = absurd are
  takes_many (a ∷ asks) old new [] are = absurd are
  takes_many (a ∷ asks) old new (object ∷ taken) (between, is, are) = ap suc (takes_many asks between new taken are)

  -- where no ask is unmet, the objects that were joined are those that the sources claim
  pub claimed : (sources : List SourcePlan) (old new : List (Named T)) (objects : List T) → Joined (step_asks sources) old new [] objects → unmet (names_of old) (step_asks sources) ≡ []
      → AreClaimed sources old objects new
  claimed sources old new objects joined none =
      subst (λ (l : List (Option T)). Takes (step_asks sources) old l new)
      (all_found (step_asks sources) old new joined.taken (named_sources sources) joined.takes none ∙ ap (map (λ (o : T). Some o)) (sym joined.joined)) joined.takes

  -- sources claim as many objects as they ask for
  pub claimed_many : (sources : List SourcePlan) (old new : List (Named T)) (objects : List T) → AreClaimed sources old objects new → length objects ≡ length (step_asks sources)
  claimed_many sources old new objects are = sym (length-map objects (λ (o : T). Some o)) ∙ takes_many (step_asks sources) old new (map (λ (o : T). Some o) objects) are
