-- What a run opens outside its channels.
use Rattle.std.specs.Prelude.{◌≡◌, ℕ, List, length, map, take, Option}
use Rattle.flume_host.specs.HandedOut.{HandedOut}
use Rattle.flume_host.specs.HostState.{Folders, HostState}
use Rattle.flume_host.specs.Listens.{Endpoint, IsFrom, LinksTold}
use Rattle.flume_host.specs.Rolled.{Rolled}
use Rattle.flume_host.specs.Told.{Tells}
use Rattle.flume_host.specs.declared.names.NameRefused.{NameRefused}
use Rattle.agent_plan.specs.declared.plan.Plan.{Plan}
use Rattle.agent_plan.specs.declared.plan.SourcePlan.{SourcePlan}
use Rattle.agent_sinks.specs.declared.sink.AgentSink.{AgentSink}
use Rattle.avro_ends.specs.Dialing.{DialTold}
use Rattle.channel_wishes.specs.Openings.{HostTold}
use Rattle.agent_outside.specs.Backs.{Reopened}
use Rattle.agent_outside.specs.Dials.{DialsOpened, FailsBy, dials_of}
use Rattle.agent_outside.specs.Ends.{ListenersBack, come_back, end_at}
use Rattle.agent_outside.specs.Listening.{CameUnused, ListenersOpened}
use Rattle.agent_outside.specs.Sinks.{AreBoxed, SinksOpened, folders_of}
use Rattle.agent_outside.specs.declared.listener.SourceListener.{SourceListener}
use Rattle.agent_plan.specs.declared.plan.GroupPlan.{GroupPlan}
use Rattle.grouped_sinks.specs.Picks.{AreDealt, AreNewRunners}
use Rattle.grouped_sinks.specs.declared.row.SinkRow.{SinkRow}
use Rattle.grouped_sinks.specs.declared.runner.Runner.{Runner}
use Rattle.run_opening.specs.declared.outside.Grouped.{Grouped}
use Rattle.run_opening.specs.declared.outside.Outside.{Outside}
use Rattle.run_tracks.specs.Places.{Zips}

-- each listener with the place of its source, in order
pub record WithPlaces {N : Type 0} (places : List ℕ) (bare : List N) (named : List (SourceListener N)) : Type 0 where
  pub sources : map (λ (l : SourceListener N). l.source) named ≡ places
  pub listeners : map (λ (l : SourceListener N). l.listener) named ≡ bare

-- the host handed each listener out for the address and port of its source
abbrev pub AreFrom : {N : Type 0} → (N → Option Endpoint) → List SourcePlan → List ℕ → List N → Type 0
AreFrom endpoint sources places listeners =
    Zips (λ place listener. IsFrom (end_at sources place).host (end_at sources place).port (endpoint listener)) places listeners

-- no folder of a channel is touched
pub record LeavesDisks (old new : Folders) : Type 0 where
  pub disks : new.disks ≡ old.disks
  pub opened : new.disk_opened ≡ old.disk_opened

-- The sinks of a plan were opened, each with a folder or a dialer if it has one, or as the object that it asks for, and then its listeners,
-- of the sources at these places.
pub record IsOutside {R A B N : Type 0} (rolled : R → Option Rolled) (faults : R → ℕ) (dial : DialTold A) (Fresh : Endpoint → Option HandedOut → N → Type 0)
    (plan : Plan) (objects : List (Option B)) (places : List ℕ) (a b : HostTold) (all : List (AgentSink R A B)) (bare : List N) : Type 0 where
  pub many : length all ≡ length plan.sinks.items
  pub sinks : SinksOpened rolled faults plan.sinks.items a.folders b.folders all
  pub boxed : AreBoxed plan.sinks.items objects all
  pub between : HostState
  pub dials : DialsOpened dial plan.sinks.items a.state between all
  pub named : List (SourceListener N)
  pub with_places : WithPlaces places bare named
  pub opened : ListenersOpened Fresh plan.sources.items places between b.state named

-- Each row of sinks has a runner with its own of these sinks, which has made no delivery; the listeners are as they were, and there is a place
-- for each sink.
pub record IsGrouped {S G N : Type 0} (groups : List GroupPlan) (rows : List SinkRow) (all : Outside S N) (grouped : Grouped S (Runner S G) N) : Type 0 where
  pub dealt : AreDealt all.sinks.items rows grouped.outside.sinks.items
  pub new_ones : AreNewRunners groups rows grouped.outside.sinks.items
  pub listeners : grouped.outside.listeners ≡ all.listeners
  pub places : length grouped.places.items ≡ length all.sinks.items

-- The sinks were opened so, and each row has a runner with its own of them, which has made no delivery.
pub record HasRunners {S G : Type 0} (Opened : List S → Type 0) (groups : List GroupPlan) (rows : List SinkRow) (runners : List (Runner S G)) : Type 0 where
  pub sinks : List S
  pub opened : Opened sinks
  pub dealt : AreDealt sinks rows runners
  pub new_ones : AreNewRunners groups rows runners

-- A folder of a sink or a listener was refused, or memory ran out. The folders and dialers of the first sinks and listeners at the first of
-- these places came back unused, and nothing else changed but the count of faults.
pub record OutsideRefused (plan : Plan) (places : List ℕ) (refused : NameRefused) (a b : HostTold) : Type 0 where
  pub sinks : ℕ
  pub folders : Reopened (folders_of (take sinks plan.sinks.items)) a.folders b.folders
  pub dials : Tells a.state.dialers b.state.dialers (CameUnused (dials_of (take sinks plan.sinks.items)))
  pub listeners : ℕ
  pub told : Tells a.state.listeners b.state.listeners (CameUnused (map (end_at plan.sources.items) (take listeners places)))
  pub state : b.state ≡ record a.state { listeners = b.state.listeners; dialers = b.state.dialers; faults = b.state.faults }
  pub faults : FailsBy refused a.state.faults b.state.faults

-- These listeners came back, of the sources at these places.
pub record AreBack {N : Type 0} (told : N → Option LinksTold) (waits faults : N → ℕ) (sources : List SourcePlan) (places : List ℕ)
    (bare : List N) (old new : HostState) : Type 0 where
  pub named : List (SourceListener N)
  pub with_places : WithPlaces places bare named
  pub back : ListenersBack (come_back told waits faults sources named) old new
