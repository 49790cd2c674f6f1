-- The sinks of an agent, by their plans.
use Rattle.std.specs.Prelude.{◌≡◌, ◌⊎◌, ℕ, zero, suc, List, [], ◌∷◌, ◌++◌, flat_map, take, Option, None, Some, IsTrue, string_bytes}
use Rattle.flume_host.specs.HandedOut.{HandedOut}
use Rattle.flume_host.specs.HostState.{Folders, HostState}
use Rattle.flume_host.specs.Rolled.{Rolled}
use Rattle.flume_host.specs.declared.names.NameRefused.{NameRefused}
use Rattle.agent_plan.specs.declared.plan.SinkPlan.{SinkPlan}
use Rattle.agent_plan.specs.declared.plan.SinkKind.{SinkKind}
use Rattle.agent_plan.specs.declared.plan.SinkKind.TheVariants as plan
use Rattle.roll_sink.specs.States.{state_of}
use Rattle.agent_sinks.specs.declared.sink.AgentSink.{AgentSink}
use Rattle.agent_sinks.specs.declared.sink.AgentSink.TheVariants.{Null, Roll, Avro, Boxed}
use Rattle.agent_outside.specs.Backs.{Reopened, RollBack, RollsOut}
use Rattle.avro_ends.specs.Dialing.{DialTold}
use Rattle.agent_outside.specs.Dials.{DialsRefused, HasNewDial, dials_of}

-- the path of its folder, if it has one
abbrev pub folder_of : SinkKind → List (List ℕ)
folder_of plan.Null = []
folder_of (plan.Roll folder interval) = string_bytes folder ∷ []
folder_of (plan.Avro host port) = []
folder_of (plan.Plugin name) = []

abbrev pub folders_of : List SinkPlan → List (List ℕ)
folders_of plans = flat_map (λ (plan : SinkPlan). folder_of plan.kind) plans

-- the sink is of the kind of its plan, and its folder was opened, so it can be given back
abbrev pub IsOfKind : {R A B : Type 0} → Folders → SinkKind → AgentSink R A B → Type 0
IsOfKind folders plan.Null (Null sink) = Unit {0}
IsOfKind folders (plan.Roll folder interval) (Roll sink) = IsTrue (folders.roll_opened (string_bytes folder))
IsOfKind folders (plan.Avro host port) (Avro sink) = Unit {0}
IsOfKind folders (plan.Plugin name) (Boxed sink) = Unit {0}
IsOfKind folders kind sink = ⊥

-- these are the sinks of the first of these plans, in their order
abbrev pub AreOfPlans : {R A B : Type 0} → Folders → List SinkPlan → List (AgentSink R A B) → Type 0
AreOfPlans folders plans [] = Unit {0}
AreOfPlans folders [] (sink ∷ sinks) = ⊥
AreOfPlans folders (plan ∷ plans) (sink ∷ sinks) = IsOfKind folders plan.kind sink × AreOfPlans folders plans sinks

-- the folder was opened, if it has one
abbrev pub IsOpened : Folders → SinkKind → Type 0
IsOpened folders plan.Null = Unit {0}
IsOpened folders (plan.Roll folder interval) = IsTrue (folders.roll_opened (string_bytes folder))
IsOpened folders (plan.Avro host port) = Unit {0}
IsOpened folders (plan.Plugin name) = Unit {0}

-- there are so many plans at least, and the folders of the first so many were opened
abbrev pub AreOpened : Folders → List SinkPlan → ℕ → Type 0
AreOpened folders plans zero = Unit {0}
AreOpened folders [] (suc many) = ⊥
AreOpened folders (plan ∷ plans) (suc many) = IsOpened folders plan.kind × AreOpened folders plans many

-- the folder of a sink, if it has one
abbrev pub back_of : {R A B : Type 0} → (R → Option Rolled) → SinkKind → AgentSink R A B → List RollBack
back_of rolled (plan.Roll folder interval) (Roll sink) = record { path = string_bytes folder; told = rolled sink.dir } ∷ []
back_of rolled kind sink = []

-- the folders of the sinks of the first of these plans, in their order
abbrev pub backs_of : {R A B : Type 0} → (R → Option Rolled) → List SinkPlan → List (AgentSink R A B) → List RollBack
backs_of rolled plans [] = []
backs_of rolled [] (sink ∷ sinks) = []
backs_of rolled (plan ∷ plans) (sink ∷ sinks) = back_of rolled plan.kind sink ++ backs_of rolled plans sinks

-- a sink of rolled files has the interval of its plan and delivered nothing, and its folder has counted no fault
abbrev pub IsNew : {R A B : Type 0} → (R → ℕ) → SinkKind → AgentSink R A B → Type 0
IsNew faults (plan.Roll folder interval) (Roll sink) = (state_of sink ≡ record { interval = interval; start = None; next = 1; begun = None }) × (faults sink.dir ≡ 0)
IsNew faults kind sink = Unit {0}

-- so are the sinks of the first of these plans
abbrev pub AreNew : {R A B : Type 0} → (R → ℕ) → List SinkPlan → List (AgentSink R A B) → Type 0
AreNew faults plans [] = Unit {0}
AreNew faults [] (sink ∷ sinks) = ⊥
AreNew faults (plan ∷ plans) (sink ∷ sinks) = IsNew faults plan.kind sink × AreNew faults plans sinks

-- the first of some objects, and those behind it; of none there is none
abbrev pub first_of : {B : Type 0} → List (Option B) → Option B
first_of [] = None
first_of (object ∷ objects) = object

abbrev pub rest_of : {B : Type 0} → List (Option B) → List (Option B)
rest_of [] = []
rest_of (object ∷ objects) = objects

-- a sink that was handed in is this object
abbrev pub IsBoxed : {R A B : Type 0} → SinkKind → Option B → AgentSink R A B → Type 0
IsBoxed (plan.Plugin name) object (Boxed sink) = object ≡ Some sink
IsBoxed kind object sink = Unit {0}

-- so it is of the first of these plans, each with the object at its place
abbrev pub AreBoxed : {R A B : Type 0} → List SinkPlan → List (Option B) → List (AgentSink R A B) → Type 0
AreBoxed plans objects [] = Unit {0}
AreBoxed (plan ∷ plans) (object ∷ objects) (sink ∷ sinks) = IsBoxed plan.kind object sink × AreBoxed plans objects sinks
AreBoxed plans objects sinks = ⊥

-- The sinks of the first of these plans were opened, and nothing else of the folders changed.
pub record SinksOpened {R A B : Type 0} (rolled : R → Option Rolled) (faults : R → ℕ) (plans : List SinkPlan) (old new : Folders) (sinks : List (AgentSink R A B)) : Type 0 where
  pub are : AreOfPlans new plans sinks
  pub made : AreNew faults plans sinks
  pub out : RollsOut (backs_of rolled plans sinks) old new

-- The sink of a plan, with this object, was opened, and added to these; these are the host's dialers then.
pub record SinkAdded {R A B : Type 0} (rolled : R → Option Rolled) (faults : R → ℕ) (dial : DialTold A) (plan : SinkPlan) (object : Option B) (all : Option HandedOut)
    (old new : Folders) (before after : List (AgentSink R A B)) : Type 0 where
  pub sink : AgentSink R A B
  pub is : after ≡ before ++ sink ∷ []
  pub of : IsOfKind new plan.kind sink
  pub made : IsNew faults plan.kind sink
  pub boxed : IsBoxed plan.kind object sink
  pub out : RollsOut (back_of rolled plan.kind sink) old new
  pub dialed : HasNewDial dial all plan.kind sink

-- The sink of a plan was not opened, or came back unused.
pub record SinkUnopened (plan : SinkPlan) (refused : NameRefused) (old new : Folders) (before after : HostState) : Type 0 where
  pub plans : List SinkPlan
  pub which : (plans ≡ []) ⊎ (plans ≡ plan ∷ [])
  pub folders : Reopened (folders_of plans) old new
  pub dials : DialsRefused refused (dials_of plans) before after

-- The sinks of the first of these plans were opened and came back unused.
pub record SinksRefused (plans : List SinkPlan) (refused : NameRefused) (old new : Folders) (before after : HostState) : Type 0 where
  pub sinks : ℕ
  pub folders : Reopened (folders_of (take sinks plans)) old new
  pub dials : DialsRefused refused (dials_of (take sinks plans)) before after
