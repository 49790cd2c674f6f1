-- What is built of a plan.
use Rattle.std.specs.Prelude.{◌≡◌, ◌⊎◌, List, [], ◌∷◌}
use Rattle.regex_steps.specs.Steps.{IsBad, IsStepOf, step}
use Rattle.source_put.specs.declared.chain.ChainLink.{ChainLink}
use Rattle.source_put.specs.declared.chain.ChainLink.TheVariants as link
use Rattle.chain_plan.specs.declared.plan.LinkPlan.{LinkPlan}
use Rattle.chain_plan.specs.declared.plan.LinkPlan.TheVariants.{Step, Regex, Boxed}

-- the interceptor is the one that was planned
abbrev pub IsBuilt : {B : Type 0} → LinkPlan B → ChainLink B → Type 0
IsBuilt (Step plan) (link.Step made) = made ≡ plan
IsBuilt (Regex keys) (link.Regex made) = IsStepOf keys (step made)
IsBuilt (Boxed object) (link.Boxed made) = made ≡ object
IsBuilt plan made = ⊥

-- each of them, in order
abbrev pub AreBuilt : {B : Type 0} → List (LinkPlan B) → List (ChainLink B) → Type 0
AreBuilt [] [] = Unit {0}
AreBuilt (plan ∷ plans) (made ∷ links) = IsBuilt plan made × AreBuilt plans links
AreBuilt plans links = ⊥

-- a text of the plan is no pattern
abbrev pub IsBadPlan : {B : Type 0} → LinkPlan B → Type 0
IsBadPlan (Step plan) = ⊥
IsBadPlan (Regex keys) = IsBad keys
IsBadPlan (Boxed object) = ⊥

-- that of one of these plans
abbrev pub HasBad : {B : Type 0} → List (LinkPlan B) → Type 0
HasBad [] = ⊥
HasBad (plan ∷ plans) = IsBadPlan plan ⊎ HasBad plans
