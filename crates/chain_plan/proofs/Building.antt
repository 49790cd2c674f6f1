-- One plan more.
use Rattle.std.proofs.Common.{inl, inr, List, [], ◌∷◌, ◌++◌}
use Rattle.source_put.specs.declared.chain.ChainLink.{ChainLink}
use Rattle.chain_plan.specs.Builds.{AreBuilt, HasBad, IsBadPlan, IsBuilt}
use Rattle.chain_plan.specs.declared.plan.LinkPlan.{LinkPlan}

-- one link more is built by its plan
pub built_push : {B : Type 0} (plans : List (LinkPlan B)) (links : List (ChainLink B)) (plan : LinkPlan B) (made : ChainLink B) → AreBuilt plans links → IsBuilt plan made → AreBuilt (plans ++ plan ∷ []) (links ++ made ∷ [])
built_push [] [] plan made all one = (one, tt)
built_push [] (l ∷ links) plan made all one = absurd all
built_push (p ∷ plans) [] plan made all one = absurd all
built_push (p ∷ plans) (l ∷ links) plan made all one = (all.0, built_push plans links plan made all.1 one)

-- a bad plan among some is one among more
pub bad_before : {B : Type 0} (plans : List (LinkPlan B)) (plan : LinkPlan B) → HasBad plans → HasBad (plans ++ plan ∷ [])
bad_before [] plan bad = absurd bad
bad_before (p ∷ plans) plan (inl bad) = inl bad
bad_before (p ∷ plans) plan (inr bad) = inr (bad_before plans plan bad)

-- where the last plan is bad, some plan is
pub bad_last : {B : Type 0} (plans : List (LinkPlan B)) (plan : LinkPlan B) → IsBadPlan plan → HasBad (plans ++ plan ∷ [])
bad_last [] plan bad = inl bad
bad_last (p ∷ plans) plan bad = inr (bad_last plans plan bad)
