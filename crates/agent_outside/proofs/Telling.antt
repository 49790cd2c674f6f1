-- What interceptors are told of the host.
use Rattle.std.proofs.Common.{◌≡◌, ◌||◌, ℕ, Bool, true, false, List, [], ◌∷◌, All, Option, refl, ap, subst, string_bytes}
use Rattle.std.specs.List.{list_any}
use Rattle.std.proofs.lemmas.List.Elements.{All-cons, All-nil, All-weaker}
use Rattle.interceptors.specs.declared.step.Step.TheVariants.{Timestamp, Host, Static, Remove}
use Rattle.agent_plan.specs.declared.plan.SourcePlan.{SourcePlan}
use Rattle.agent_plan.specs.declared.plan.StepPlan.{StepPlan}
use Rattle.agent_plan.specs.declared.plan.StepPlan.TheVariants as plan
use Rattle.source_put.specs.declared.chain.HostNames.{HostNames}
use Rattle.agent_outside.specs.Names.{AreTold, IsRight, IsTold, asks, wants}

or_true : (a b : Bool) → b ≡ true → (a || b) ≡ true
or_true true b is = refl
or_true false b is = is

-- one that passes is one of them
each_passes : {A : Type 0} (p : A → Bool) (xs : List A) → All (λ x. p x ≡ true → list_any p xs ≡ true) xs
each_passes p [] = All-nil (λ x. p x ≡ true → false ≡ true)
each_passes p (x ∷ xs) =
    All-cons (λ y. p y ≡ true → (p x || list_any p xs) ≡ true) x xs (λ is. ap (λ (b : Bool). b || list_any p xs) is)
    (All-weaker (λ y. p y ≡ true → list_any p xs ≡ true) (λ y. p y ≡ true → (p x || list_any p xs) ≡ true) (λ y passes is. or_true (p x) (list_any p xs) (passes is)) xs (each_passes p xs))

module _ (own_name own_address : Option (List ℕ)) (source : SourcePlan) (names : HostNames) (told : AreTold own_name own_address source names) where
  one_right : (step : StepPlan) → (asks false step ≡ true → wants false source ≡ true) → (asks true step ≡ true → wants true source ≡ true) → IsRight own_name own_address names step
  one_right (plan.Step (Timestamp header preserve)) name address = tt
  one_right (plan.Step (Host true header preserve)) name address = subst (λ (b : Bool). IsTold b true own_name own_address (string_bytes names.address)) (address refl) told.address
  one_right (plan.Step (Host false header preserve)) name address = subst (λ (b : Bool). IsTold b false own_name own_address (string_bytes names.name)) (name refl) told.name
  one_right (plan.Step (Static key value preserve)) name address = tt
  one_right (plan.Step (Remove keys)) name address = tt
  one_right (plan.Regex keys line) name address = tt
  one_right (plan.Plugin name' line) name address = tt

  -- each interceptor of a source is told the right name of the host
  pub each_right : All (IsRight own_name own_address names) source.steps.items
  each_right k d below = one_right _ (each_passes (asks false) source.steps.items k d below) (each_passes (asks true) source.steps.items k d below)
