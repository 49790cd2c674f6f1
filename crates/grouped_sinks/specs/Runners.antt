-- What a worker drives, by its kind.
use Rattle.std.specs.Prelude.{ℕ, List, [], ◌∷◌}
use Rattle.grouped_sinks.specs.declared.runner.Runner.{Runner}
use Rattle.grouped_sinks.specs.declared.runner.Runner.TheVariants.{Alone, Group}
use Rattle.sink_groups.specs.declared.sink.GroupSink.{GroupSink}

-- it became one of the same kind, as a delivery of that kind says
abbrev pub DeliversAs : {S N : Type 0} → (S → S → Type 0) → (GroupSink S N → GroupSink S N → Type 0) → Runner S N → Runner S N → Type 0
DeliversAs alone group (Alone a) (Alone b) = alone a b
DeliversAs alone group (Group a) (Group b) = group a b
DeliversAs alone group a b = ⊥

-- how often it has refused
abbrev pub faults_as : {S N : Type 0} → (S → ℕ) → (GroupSink S N → ℕ) → Runner S N → ℕ
faults_as alone group (Alone a) = alone a
faults_as alone group (Group a) = group a

-- the sinks in it, in order
abbrev pub members_of : {S N : Type 0} → Runner S N → List S
members_of (Alone sink) = sink ∷ []
members_of (Group group) = group.run.members.items
