-- What the components of a plan name is there.
use Rattle.std.specs.Prelude.{◌≡◌, ◌<◌, ◌≤◌, ℕ, List, All, length, Ok}
use Rattle.prop_text.specs.Pairs.{Pair}
use Rattle.agent_plan.specs.declared.plan.Plan.{Plan}
use Rattle.agent_plan.specs.declared.plan.SourcePlan.{SourcePlan}
use Rattle.agent_plan.specs.declared.plan.GroupPlan.{GroupPlan}
use Rattle.agent_plan.specs.declared.plan.Processor.TheVariants.{Single}
use Rattle.agent_plan.specs.Plans.{Plans}
use Rattle.source_put.specs.Accepts.{NamesBelow}

-- each channel of the source is one of so many, and each that its selector names is one of the source's
abbrev pub IsWithin : ℕ → SourcePlan → Type 0
IsWithin count source = All (λ place. place < count) source.channels.items × NamesBelow source.selector (length source.channels.items)

-- so it is with each source of a plan that is answered, and the plan's channels
abbrev pub SourcesNameWhatIsThere : Type 0
SourcesNameWhatIsThere =
    (pairs : List Pair) (agent : List ℕ) (plan : Plan) → Plans pairs agent (Ok plan) → All (IsWithin (length plan.channels.items)) plan.sources.items

-- so it is with the channel of each sink
abbrev pub SinksNameWhatIsThere : Type 0
SinksNameWhatIsThere =
    (pairs : List Pair) (agent : List ℕ) (plan : Plan) → Plans pairs agent (Ok plan) → All (λ sink. sink.channel < length plan.channels.items) plan.sinks.items

-- Each sink of the group is one of so many; the group has as many priorities as sinks, and at most one sink where it does not choose.
pub record IsGroupWithin (count : ℕ) (group : GroupPlan) : Type 0 where
  pub sinks : All (λ place. place < count) group.sinks.items
  pub priorities : length group.priorities.items ≡ length group.sinks.items
  pub single : group.processor ≡ Single → length group.sinks.items ≤ 1

-- so it is with each group, and the plan's sinks
abbrev pub GroupsNameWhatIsThere : Type 0
GroupsNameWhatIsThere =
    (pairs : List Pair) (agent : List ℕ) (plan : Plan) → Plans pairs agent (Ok plan) → All (IsGroupWithin (length plan.sinks.items)) plan.groups.items
