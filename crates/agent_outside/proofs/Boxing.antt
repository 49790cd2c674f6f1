-- Sinks that take the objects that they ask for, one after the other.
use Rattle.std.proofs.Common.{◌≡◌, ◌∙◌, ◌<◌, ℕ, zero, suc, List, [], ◌∷◌, ◌++◌, length, get_or, drop, length-append, Option, refl, sym, ap, subst, arith}
use Rattle.agent_plan.specs.declared.plan.SinkPlan.{SinkPlan}
use Rattle.agent_sinks.specs.declared.sink.AgentSink.{AgentSink}
use Rattle.plan_objects.specs.Asks.{HasObject, HaveObjects}
use Rattle.agent_outside.specs.Sinks.{AreBoxed, IsBoxed, first_of, rest_of}

objects_many : {B : Type 0} (plans : List SinkPlan) (objects : List (Option B)) → HaveObjects plans objects → length objects ≡ length plans
objects_many [] [] have = refl
objects_many [] (o ∷ objects) have = absurd have
objects_many (p ∷ plans) [] have = absurd have
objects_many (p ∷ plans) (o ∷ objects) have = ap suc (objects_many plans objects have.1)

object_at : {B : Type 0} (plans : List SinkPlan) (objects : List (Option B)) → HaveObjects plans objects → (i : ℕ) (p : SinkPlan) (o : Option B) → i < length plans → HasObject (get_or plans i p).kind (get_or objects i o)
object_at [] objects have i p o below = absurd (omega (arith, below))
object_at (q ∷ plans) [] have i p o below = absurd have
object_at (q ∷ plans) (r ∷ objects) have zero p o below = have.0
object_at (q ∷ plans) (r ∷ objects) have (suc i) p o below = object_at plans objects have.1 i p o (omega (arith, below))

-- one more
boxed_more : {R A B : Type 0} (plans : List SinkPlan) (objects : List (Option B)) (sinks : List (AgentSink R A B)) (sink : AgentSink R A B) (p : SinkPlan) (o : Option B) → length sinks < length plans
    → length sinks < length objects → AreBoxed plans objects sinks → IsBoxed (get_or plans (length sinks) p).kind (get_or objects (length sinks) o) sink → AreBoxed plans objects (sinks ++ sink ∷ [])
boxed_more [] objects sinks sink p o below under are is = absurd (omega (arith, below))
boxed_more (q ∷ plans) [] sinks sink p o below under are is = absurd (omega (arith, under))
boxed_more (q ∷ plans) (r ∷ objects) [] sink p o below under are is = (is, tt)
boxed_more (q ∷ plans) (r ∷ objects) (s ∷ sinks) sink p o below under are is =
    (are.0, boxed_more plans objects sinks sink p o (omega (arith, below)) (omega (arith, under)) are.1 is)

first_at : {B : Type 0} (objects : List (Option B)) (i : ℕ) (o : Option B) → i < length objects → first_of (drop i objects) ≡ get_or objects i o
first_at [] i o below = absurd (omega (arith, below))
first_at (r ∷ objects) zero o below = refl
first_at (r ∷ objects) (suc i) o below = first_at objects i o (omega (arith, below))

rest_at : {B : Type 0} (objects : List (Option B)) (i : ℕ) → i < length objects → rest_of (drop i objects) ≡ drop (suc i) objects
rest_at [] i below = absurd (omega (arith, below))
rest_at (r ∷ objects) zero below = refl
rest_at (r ∷ objects) (suc i) below = rest_at objects i (omega (arith, below))

-- The first sinks have their objects, and these are left.
pub record Boxing {R A B : Type 0} (plans : List SinkPlan) (all left : List (Option B)) (sinks : List (AgentSink R A B)) : Type 0 where
  pub rest : left ≡ drop (length sinks) all
  pub boxed : AreBoxed plans all sinks

module _ {R A B : Type 0} (plans : List SinkPlan) (all : List (Option B)) (have : HaveObjects plans all) (sinks : List (AgentSink R A B)) (below : length sinks < length plans)
    (left : List (Option B)) (boxing : Boxing plans all left sinks) (p : SinkPlan) where
  abbrev within : length sinks < length all
  within = let many = objects_many plans all have in omega (arith, below, many)

  -- the next one is that at its place
  first : (o : Option B) → first_of left ≡ get_or all (length sinks) o
  first o = ap (λ (l : List (Option B)). first_of l) boxing.rest ∙ first_at all (length sinks) o within

  -- the first of the objects left is what the next sink's kind asks for
  pub next_object : HasObject (get_or plans (length sinks) p).kind (first_of left)
  next_object =
      subst (λ (x : Option B). HasObject (get_or plans (length sinks) p).kind x) (sym (first (first_of left))) (object_at plans all have (length sinks) p (first_of left) below)

  one_more : (sink : AgentSink R A B) → suc (length sinks) ≡ length (sinks ++ sink ∷ [])
  one_more sink = let many = length-append sinks (sink ∷ []) in omega (arith, many)

  -- one more sink has its object, and the others are left
  pub boxing_more : (more : List (Option B)) (after : List (AgentSink R A B)) (sink : AgentSink R A B) → more ≡ rest_of left → after ≡ sinks ++ sink ∷ []
      → IsBoxed (get_or plans (length sinks) p).kind (first_of left) sink → Boxing plans all more after
  boxing_more more after sink behind is one = subst (Boxing plans all more) (sym is) (record {
    rest = behind ∙ ap (λ (l : List (Option B)). rest_of l) boxing.rest ∙ rest_at all (length sinks) within ∙ ap (λ (n : ℕ). drop n all) (one_more sink);
    boxed = boxed_more plans all sinks sink p (first_of left) below within boxing.boxed
        (subst (λ (x : Option B). IsBoxed (get_or plans (length sinks) p).kind x sink) (first (first_of left)) one);
  })
