-- What is left of objects once one is taken.
use Rattle.std.proofs.Common.{◌≡◌, ◌∙◌, ◌++◌, ◌||◌, ℕ, Bool, true, false, cond, min, List, [], ◌∷◌, fold, Option, Some, None, refl, sym, ap, bytes_eq, string_bytes}
use Rattle.std.proofs.lemmas.Bool.{false_from_ne_true}
use Rattle.std.proofs.lemmas.Slice.Eq.{bytes_eq-Decides}
use Rattle.plan_objects.specs.Named.{Claims, HasNone, Named}
use Rattle.agent_plan.specs.declared.plan.SinkPlan.{SinkPlan}
use Rattle.agent_plan.specs.declared.plan.SinkKind.{SinkKind}
use Rattle.agent_plan.specs.declared.plan.SinkKind.TheVariants.{Null, Roll, Avro, Plugin}
use Rattle.plan_objects.specs.Asks.{AreTaken, HasObject, HaveObjects, IsTaken, asked, found, is_left, is_met, left, misses, names_of, nearer, sink_asks, unmet, without}

same_name : (a b : List ℕ) → a ≡ b → bytes_eq a b ≡ true
same_name a b is = (bytes_eq-Decides a b).1 is

other_name : (a b : List ℕ) → (a ≡ b → ⊥) → bytes_eq a b ≡ false
other_name a b not = false_from_ne_true (bytes_eq a b) (λ is. not ((bytes_eq-Decides a b).0 is))

module _ {T : Type 0} (name : List ℕ) where
  -- no object of the name is left
  none_left : (held : List (Named T)) → HasNone name held → is_left (names_of held) name ≡ false
  none_left [] none = refl
  none_left (h ∷ held) none = (λ i. other_name (string_bytes h.name) name none.0 i || none_left held none.1 i)

  none_without : (held : List (Named T)) → HasNone name held → without (names_of held) name ≡ names_of held
  none_without [] none = refl
  none_without (h ∷ held) none =
      (λ i. cond (other_name (string_bytes h.name) name none.0 i) (names_of held) (string_bytes h.name ∷ without (names_of held) name))
      ∙ ap (λ (l : List (List ℕ)). string_bytes h.name ∷ l) (none_without held none.1)

  -- one is
  one_left : (front back : List (Named T)) (given : Named T) → string_bytes given.name ≡ name → HasNone name front → is_left (names_of (front ++ given ∷ back)) name ≡ true
  one_left [] back given is none = ap (λ (b : Bool). b || is_left (names_of back) name) (same_name (string_bytes given.name) name is)
  one_left (h ∷ front) back given is none = (λ i. other_name (string_bytes h.name) name none.0 i || one_left front back given is none.1 i)

  one_without : (front back : List (Named T)) (given : Named T) → string_bytes given.name ≡ name → HasNone name front → without (names_of (front ++ given ∷ back)) name ≡ names_of (front ++ back)
  one_without [] back given is none =
      λ i. cond (same_name (string_bytes given.name) name is i) (names_of back) (string_bytes given.name ∷ without (names_of back) name)
  one_without (h ∷ front) back given is none =
      (λ i. cond (other_name (string_bytes h.name) name none.0 i) (names_of (front ++ given ∷ back)) (string_bytes h.name ∷ without (names_of (front ++ given ∷ back)) name))
      ∙ ap (λ (l : List (List ℕ)). string_bytes h.name ∷ l) (one_without front back given is none.1)

  -- what a claim leaves of the names
  claim_leaves : (old new : List (Named T)) (object : Option T) → Claims name old object new → names_of new ≡ without (names_of old) name
  claim_leaves old new None is = ap (λ (l : List (Named T)). names_of l) is.1 ∙ sym (none_without old is.0)
  claim_leaves old new (Some object) (front, back, given, was, none, named, same, rest) =
      ap (λ (l : List (Named T)). names_of l) rest ∙ sym (ap (λ (l : List (Named T)). without (names_of l) name) was ∙ one_without front back given named none)

-- a claim finds one where one is left
claim_finds : {T : Type 0} (name : List ℕ) (old new : List (Named T)) (object : Option T) → Claims name old object new → is_left (names_of old) name ≡ found object
claim_finds name old new None is = none_left name old is.0
claim_finds name old new (Some object) (front, back, given, was, none, named, same, rest) =
    ap (λ (l : List (Named _)). is_left (names_of l) name) was ∙ one_left name front back given named none

-- the names that are left after an object was asked for
pub taken_leaves : {T : Type 0} (ask : Option (List ℕ)) (old new : List (Named T)) (object : Option T) → IsTaken ask old object new → names_of new ≡ left (names_of old) ask
taken_leaves None old new object is = ap (λ (l : List (Named _)). names_of l) is.1
taken_leaves (Some name) old new object is = claim_leaves name old new object is

-- the line of what misses its object
pub missed : {T : Type 0} (ask : Option (List ℕ)) (line : ℕ) (old new : List (Named T)) (object : Option T) → IsTaken ask old object new
    → cond (is_met (names_of old) ask) [] (line ∷ []) ≡ cond (misses ask (found object)) (line ∷ []) []
missed None line old new object is = refl
missed (Some name) line old new None is = ap (λ (b : Bool). cond b [] (line ∷ [])) (claim_finds name old new None is)
missed (Some name) line old new (Some object) is = ap (λ (b : Bool). cond b [] (line ∷ [])) (claim_finds name old new (Some object) is)

-- the nearest line, where one sink is after it
pub nearest_after : (first : Option ℕ) (line : ℕ) (others : List ℕ) (b : Bool)
    → fold nearer first (cond b (line ∷ []) [] ++ others) ≡ fold nearer (cond b (nearer first line) first) others
nearest_after first line others true = refl
nearest_after first line others false = refl

-- a sink that does not miss its object has it
has_object : {T : Type 0} (kind : SinkKind) (line : ℕ) (object : Option T) → cond (misses (asked kind) (found object)) (line ∷ []) [] ≡ [] → HasObject kind object
has_object Null line object none = tt
has_object (Roll folder interval) line object none = tt
has_object (Avro host port) line object none = tt
has_object (Plugin name) line None none = absurd (cc)
has_object (Plugin name) line (Some object) none = tt

-- where two lists together are empty, both are
pub nil_both : {A : Type 0} (xs ys : List A) → xs ++ ys ≡ [] → (xs ≡ []) × (ys ≡ [])
nil_both [] ys is = (refl, is)
nil_both (x ∷ xs) ys is = absurd (cc)

-- where no line is unmet, each sink has its object
pub have_objects : {T : Type 0} (plans : List SinkPlan) (old : List (Named T)) (objects : List (Option T)) (new : List (Named T)) → AreTaken plans old objects new
    → unmet (names_of old) (sink_asks plans) ≡ [] → HaveObjects plans objects
have_objects [] old [] new are none = tt
have_objects [] old (object ∷ objects) new are none = absurd are
have_objects (s ∷ plans) old [] new are none = absurd are
have_objects (s ∷ plans) old (object ∷ objects) new (between, is, are) none =
    let asks = sink_asks plans in
    let both = nil_both (cond (is_met (names_of old) (asked s.kind)) [] (s.line ∷ [])) (unmet (left (names_of old) (asked s.kind)) asks) none in (
      has_object s.kind s.line object (sym (missed (asked s.kind) s.line old between object is) ∙ both.0),
      have_objects plans between objects new are (ap (λ (l : List (List ℕ)). unmet l asks) (taken_leaves (asked s.kind) old between object is) ∙ both.1),
    )

-- the nearest line over one sink and those after it
pub first_over : {T : Type 0} (first : Option ℕ) (s : SinkPlan) (plans : List SinkPlan) (old between : List (Named T)) (object : Option T) → IsTaken (asked s.kind) old object between
    → fold nearer (cond (misses (asked s.kind) (found object)) (nearer first s.line) first) (unmet (names_of between) (sink_asks plans))
    ≡ fold nearer first (unmet (names_of old) (sink_asks (s ∷ plans)))
first_over first s plans old between object is =
    let asks = sink_asks plans in
    sym (nearest_after first s.line (unmet (names_of between) asks) (misses (asked s.kind) (found object)))
    ∙ (λ i. fold nearer first (sym (missed (asked s.kind) s.line old between object is) i ++ unmet (taken_leaves (asked s.kind) old between object is i) asks))

-- a line stays
goes_on : (lines : List ℕ) (line : ℕ) → fold nearer (Some line) lines ≡ None → ⊥
goes_on [] line is = cc
goes_on (other ∷ lines) line is = goes_on lines (min line other) is

-- where a nearest line is none, there was none, and there are no lines
pub none_first : (first : Option ℕ) (lines : List ℕ) → fold nearer first lines ≡ None → (first ≡ None) × (lines ≡ [])
none_first None [] is = (refl, refl)
none_first None (line ∷ lines) is = absurd (goes_on lines line is)
none_first (Some line) lines is = absurd (goes_on lines line is)
