-- No sink of a plan stands in groups twice.
use Rattle.std.specs.Prelude.{◌≢◌, ℕ, List, [], ◌∷◌, flat_map, Ok}
use Rattle.std.specs.List.{AllByRecursion}
use Rattle.prop_text.specs.Pairs.{Pair}
use Rattle.agent_plan.specs.declared.plan.Plan.{Plan}
use Rattle.agent_plan.specs.declared.plan.GroupPlan.{GroupPlan}
use Rattle.agent_plan.specs.Plans.{Plans}

-- none of these is the place
abbrev pub AreOthers : ℕ → List ℕ → Type 0
AreOthers place places = AllByRecursion (λ other. other ≢ place) places

-- none stands twice
abbrev pub AreDistinct : List ℕ → Type 0
AreDistinct [] = Unit {0}
AreDistinct (place ∷ places) = AreOthers place places × AreDistinct places

-- the places of the groups' sinks, one group after the other
abbrev pub group_places : List GroupPlan → List ℕ
group_places groups = flat_map (λ (g : GroupPlan). g.sinks.items) groups

-- no sink of a plan that is answered stands in a group twice, or in two
abbrev pub SinksStandOnce : Type 0
SinksStandOnce = (pairs : List Pair) (agent : List ℕ) (plan : Plan) → Plans pairs agent (Ok plan) → AreDistinct (group_places plan.groups.items)
