-- A sink of an agent by its kind.
use Rattle.std.specs.Prelude.{ℕ}
use Rattle.roll_sink.specs.declared.sink.RollSink.{RollSink}
use Rattle.sink_runner.specs.declared.null.NullSink.{NullSink}
use Rattle.agent_sinks.specs.declared.sink.AgentSink.{AgentSink}
use Rattle.agent_sinks.specs.declared.sink.AgentSink.TheVariants.{Null, Roll, Avro, Boxed}

-- it became one of the same kind, as a delivery of that kind says
abbrev pub DeliversAs : {R A B : Type 0} → (NullSink → NullSink → Type 0) → (RollSink R → RollSink R → Type 0) → (A → A → Type 0) → (B → B → Type 0) → AgentSink R A B → AgentSink R A B → Type 0
DeliversAs null roll avro boxed (Null a) (Null b) = null a b
DeliversAs null roll avro boxed (Roll a) (Roll b) = roll a b
DeliversAs null roll avro boxed (Avro a) (Avro b) = avro a b
DeliversAs null roll avro boxed (Boxed a) (Boxed b) = boxed a b
DeliversAs null roll avro boxed a b = ⊥

-- how often it has refused; a null sink never does
abbrev pub faults_as : {R A B : Type 0} → (RollSink R → ℕ) → (A → ℕ) → (B → ℕ) → AgentSink R A B → ℕ
faults_as roll avro boxed (Null a) = 0
faults_as roll avro boxed (Roll a) = roll a
faults_as roll avro boxed (Avro a) = avro a
faults_as roll avro boxed (Boxed a) = boxed a
