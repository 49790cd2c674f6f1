-- Dialers of sinks that were handed out and came back.
use Rattle.std.specs.Prelude.{◌≡◌, ◌≤◌, ℕ, List, [], ◌∷◌, ◌++◌, flat_map, length, take, Option, string_bytes}
use Rattle.flume_host.specs.Causes.{Rose}
use Rattle.flume_host.specs.HandedOut.{CameBack, HandedOut, endpoint_of, fresh_links}
use Rattle.flume_host.specs.HostState.{HostState}
use Rattle.flume_host.specs.Listens.{Endpoint, IsFrom}
use Rattle.flume_host.specs.Told.{Tells}
use Rattle.flume_host.specs.declared.names.NameRefused.{NameRefused}
use Rattle.flume_host.specs.declared.names.NameRefused.TheVariants.{Failed, NoMemory}
use Rattle.agent_plan.specs.declared.plan.SinkPlan.{SinkPlan}
use Rattle.agent_plan.specs.declared.plan.SinkKind.{SinkKind}
use Rattle.agent_plan.specs.declared.plan.SinkKind.TheVariants as plan
use Rattle.agent_sinks.specs.declared.sink.AgentSink.{AgentSink}
use Rattle.agent_sinks.specs.declared.sink.AgentSink.TheVariants.{Avro}
use Rattle.avro_ends.specs.Dialing.{DialTold}
use Rattle.agent_outside.specs.Ends.{AllBack}
use Rattle.agent_outside.specs.Listening.{AllOut, CameUnused}

-- the address and port that a sink of this kind dials, if it does
abbrev pub dial_of : SinkKind → List Endpoint
dial_of plan.Null = []
dial_of (plan.Roll folder interval) = []
dial_of (plan.Avro host port) = record { host = string_bytes host; port = port } ∷ []
dial_of (plan.Plugin name) = []

abbrev pub dials_of : List SinkPlan → List Endpoint
dials_of plans = flat_map (λ (plan : SinkPlan). dial_of plan.kind) plans

-- The sink has a dialer that was handed out for this address and port, and nothing was asked of it; these are the host's dialers then.
pub record IsNewDial {A : Type 0} (dial : DialTold A) (end : Endpoint) (all : Option HandedOut) (sink : A) : Type 0 where
  pub links : dial.links sink ≡ fresh_links all
  pub from : dial.endpoint sink ≡ endpoint_of end.host end.port all
  pub no_faults : dial.faults sink ≡ 0
  pub idle : dial.IsIdle sink

module _ {R A B : Type 0} (dial : DialTold A) where
  -- so has a sink of Avro by its plan
  abbrev pub HasNewDial : Option HandedOut → SinkKind → AgentSink R A B → Type 0
  HasNewDial all (plan.Avro host port) (Avro sink) = IsNewDial dial (record { host = string_bytes host; port = port }) all sink
  HasNewDial all kind sink = Unit {0}

  -- so have those of the first of these plans
  abbrev pub HaveNewDials : Option HandedOut → List SinkPlan → List (AgentSink R A B) → Type 0
  HaveNewDials all plans [] = Unit {0}
  HaveNewDials all [] (sink ∷ sinks) = ⊥
  HaveNewDials all (plan ∷ plans) (sink ∷ sinks) = HasNewDial all plan.kind sink × HaveNewDials all plans sinks

  -- the dialer of a sink of Avro was handed out for the address and port of its plan
  abbrev pub IsDialed : SinkKind → AgentSink R A B → Type 0
  IsDialed (plan.Avro host port) (Avro sink) = IsFrom (string_bytes host) port (dial.endpoint sink)
  IsDialed kind sink = Unit {0}

  abbrev pub AreDialed : List SinkPlan → List (AgentSink R A B) → Type 0
  AreDialed plans [] = Unit {0}
  AreDialed [] (sink ∷ sinks) = Unit {0}
  AreDialed (plan ∷ plans) (sink ∷ sinks) = IsDialed plan.kind sink × AreDialed plans sinks

  -- the dialer of a sink, if it has one by its plan, as it comes back once the sink is closed
  abbrev pub dial_back : SinkKind → AgentSink R A B → List CameBack
  dial_back (plan.Avro host port) (Avro sink) =
      record { host = string_bytes host; port = port; told = dial.links sink; waits = 0; faults = dial.faults sink } ∷ []
  dial_back kind sink = []

  -- the dialers of the sinks of the first of these plans, in their order
  abbrev pub dials_back : List SinkPlan → List (AgentSink R A B) → List CameBack
  dials_back plans [] = []
  dials_back [] (sink ∷ sinks) = []
  dials_back (plan ∷ plans) (sink ∷ sinks) = dial_back plan.kind sink ++ dials_back plans sinks

-- What a host shows of itself once dialers were handed out for these addresses and ports: nothing else changed.
pub record DialersOut (ends : List Endpoint) (old new : HostState) : Type 0 where
  pub state : new ≡ record old { dialers = new.dialers }
  pub told : Tells old.dialers new.dialers (AllOut ends)

-- what a host shows of itself after these dialers came back: nothing else changed
pub record DialersBack (backs : List CameBack) (old new : HostState) : Type 0 where
  pub state : new ≡ record old { dialers = new.dialers }
  pub told : Tells old.dialers new.dialers (AllBack backs)

-- the host's count of faults rose where a fault is answered, and else it may have
abbrev pub FailsBy : NameRefused → ℕ → ℕ → Type 0
FailsBy Failed old new = Rose old new
FailsBy NoMemory old new = old ≤ new

-- What a host shows of itself where an opening was refused: dialers for these addresses and ports came back unused, and nothing else
-- changed but its count of faults.
pub record DialsRefused (refused : NameRefused) (ends : List Endpoint) (old new : HostState) : Type 0 where
  pub state : new ≡ record old { dialers = new.dialers; faults = new.faults }
  pub faults : FailsBy refused old.faults new.faults
  pub told : Tells old.dialers new.dialers (CameUnused ends)

-- The sinks of the first of these plans have new dialers, each for the address and port of its plan.
pub record DialsOpened {R A B : Type 0} (dial : DialTold A) (plans : List SinkPlan) (old new : HostState) (sinks : List (AgentSink R A B)) : Type 0 where
  pub made : HaveNewDials dial old.dialers plans sinks
  pub out : DialersOut (dials_of (take (length sinks) plans)) old new
