-- What a row of a run has before its sinks are there, and once they are.
use Rattle.std.specs.Prelude.{◌≡◌, ◌<◌, ◌≤◌, ℕ, List, [], length, slice_get, Option, Some, None}
use Rattle.std.specs.Vec.{vec_capacity}
use Rattle.agent_plan.specs.declared.plan.GroupPlan.{GroupPlan}
use Rattle.agent_plan.specs.declared.plan.Processor.{Processor}
use Rattle.agent_plan.specs.declared.plan.Processor.TheVariants as by
use Rattle.sink_groups.specs.Scheduler.{IsNew, Group as Schedule}
use Rattle.sink_groups.specs.declared.rules.GroupKind.{GroupKind}
use Rattle.sink_groups.specs.declared.rules.GroupKind.TheVariants as kind
use Rattle.grouped_sinks.specs.declared.frame.Frame.{Frame}
use Rattle.grouped_sinks.specs.declared.frame.Frame.TheVariants as frame
use Rattle.grouped_sinks.specs.declared.row.SinkRow.{SinkRow}
use Rattle.grouped_sinks.specs.declared.runner.Runner.{Runner}
use Rattle.grouped_sinks.specs.declared.runner.Runner.TheVariants.{Alone, Group}

-- how a group chooses, by its plan
abbrev pub kind_of : Processor → GroupKind
kind_of by.Single = kind.Single
kind_of by.Failover = kind.Failover
kind_of by.RoundRobin = kind.RoundRobin
kind_of by.Random = kind.Random

-- the group at this place, with the rules of its plan, of which no member has failed yet
pub record IsNewGroup (groups : List GroupPlan) (at : ℕ) (schedule : Schedule) : Type 0 where
  pub group : GroupPlan
  pub here : slice_get groups at ≡ Some group
  pub new : IsNew (kind_of group.processor) group.priorities.items group.penalty group.backoff schedule

-- what is kept for a row of so many sinks: for a group a schedule by its plan, and room for its members
abbrev pub IsFrame : {S N : Type 0} → List GroupPlan → Option ℕ → ℕ → Frame S N → Type 0
IsFrame groups None many frame.Alone = many ≡ 1
IsFrame groups (Some at) many (frame.Group schedule room random) =
    IsNewGroup groups at schedule × (many ≡ length schedule.members) × (room.items ≡ []) × (many ≤ vec_capacity room)
IsFrame groups group many kept = ⊥

abbrev pub IsFrameOf : {S N : Type 0} → List GroupPlan → SinkRow → Frame S N → Type 0
IsFrameOf groups row kept = IsFrame groups row.group (length row.places.items) kept

-- the row has one sink, or those of a group of the plan, which has as many priorities
abbrev pub HasGroup : List GroupPlan → Option ℕ → List ℕ → Type 0
HasGroup groups None places = length places ≡ 1
HasGroup groups (Some at) places =
    (group : GroupPlan) × (slice_get groups at ≡ Some group) × (places ≡ group.sinks.items) × (0 < length places) × (length group.priorities.items ≡ length places)

abbrev pub IsFit : List GroupPlan → SinkRow → Type 0
IsFit groups row = HasGroup groups row.group row.places.items

-- a runner that has made no delivery, by the row's group
abbrev pub IsNewRunner : {S N : Type 0} → List GroupPlan → Option ℕ → Runner S N → Type 0
IsNewRunner groups None (Alone sink) = Unit {0}
IsNewRunner groups (Some at) (Group group) = IsNewGroup groups at group.run.schedule × (group.failed ≡ 0)
IsNewRunner groups group runner = ⊥
