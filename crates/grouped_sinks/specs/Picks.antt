-- Sinks that stand in the order of their plan, and in the rows of a run.
use Rattle.std.specs.Prelude.{◌≡◌, ℕ, List, length, slice_get, Some}
use Rattle.agent_plan.specs.declared.plan.GroupPlan.{GroupPlan}
use Rattle.grouped_sinks.specs.Frames.{IsNewRunner}
use Rattle.grouped_sinks.specs.Rows.{Zips}
use Rattle.plan_laws.specs.Once.{AreOthers}
use Rattle.grouped_sinks.specs.Runners.{members_of}
use Rattle.grouped_sinks.specs.declared.row.SinkRow.{SinkRow}
use Rattle.grouped_sinks.specs.declared.runner.Runner.{Runner}

-- these are the sinks at these places, in order
abbrev pub ArePicked : {S : Type 0} → List S → List ℕ → List S → Type 0
ArePicked sinks places members = Zips (λ place member. slice_get sinks place ≡ Some member) places members

-- each row's runner has the sinks at the places of the row
abbrev pub AreDealt : {S N : Type 0} → List S → List SinkRow → List (Runner S N) → Type 0
AreDealt sinks rows runners = Zips (λ row runner. ArePicked sinks row.places.items (members_of runner)) rows runners

-- and has made no delivery
abbrev pub AreNewRunners : {S N : Type 0} → List GroupPlan → List SinkRow → List (Runner S N) → Type 0
AreNewRunners groups rows runners = Zips (λ row runner. IsNewRunner groups row.group runner) rows runners

-- each row's runner has a sink for each place of the row
abbrev pub HaveMembers : {S N : Type 0} → List SinkRow → List (Runner S N) → Type 0
HaveMembers rows runners = Zips (λ row runner. length row.places.items ≡ length (members_of runner)) rows runners

-- what stands elsewhere is as it was
pub record KeepsOthers {S : Type 0} (places : List ℕ) (old new : List S) : Type 0 where
  pub many : length new ≡ length old
  pub others : (other : ℕ) → AreOthers other places → slice_get new other ≡ slice_get old other
