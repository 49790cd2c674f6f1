-- Listeners of sources that are opened.
use Rattle.std.specs.Prelude.{◌≡◌, ◌+◌, ◌⊎◌, ℕ, List, [], ◌∷◌, ◌++◌, map, reverse, Option, Some, Err}
use Rattle.flume_host.specs.HostState.{HostState}
use Rattle.flume_host.specs.HandedOut.{CameBack, FaultsBy, HandedOut, endpoint_of, fresh_links}
use Rattle.flume_host.specs.Listens.{Endpoint, LinksTold, no_links}
use Rattle.flume_host.specs.Told.{Tells}
use Rattle.flume_host.specs.declared.names.NameRefused.{NameRefused}
use Rattle.agent_plan.specs.declared.plan.SourcePlan.{SourcePlan}
use Rattle.agent_outside.specs.declared.listener.SourceListener.{SourceListener}
use Rattle.agent_outside.specs.Ends.{count_at, end_at}

-- A listener was handed out for this address and port, and nothing was asked of it; these are the host's listeners then.
pub record IsFresh {L : Type 0} (told : L → Option LinksTold) (endpoint : L → Option Endpoint) (waits faults : L → ℕ) (end : Endpoint) (all : Option HandedOut) (listener : L) : Type 0 where
  pub links : told listener ≡ fresh_links all
  pub from : endpoint listener ≡ endpoint_of end.host end.port all
  pub no_waits : waits listener ≡ 0
  pub no_faults : faults listener ≡ 0

-- one more is out for each of these
pub record AllOut (ends : List Endpoint) (old new : HandedOut) : Type 0 where
  pub out : (host : List ℕ) (port : ℕ) → new.out host port ≡ old.out host port + count_at host port ends
  pub back : new.back ≡ old.back

-- what a host shows of itself then: nothing else changed
pub record ListenersOut (ends : List Endpoint) (old new : HostState) : Type 0 where
  pub state : new ≡ record old { listeners = new.listeners }
  pub told : Tells old.listeners new.listeners (AllOut ends)

-- one that was opened, and came back unused
abbrev pub unused : Endpoint → CameBack
unused end = record { host = end.host; port = end.port; told = Some no_links; waits = 0; faults = 0 }

-- one for each of these was opened and came back, the last of them first
pub record CameUnused (ends : List Endpoint) (old new : HandedOut) : Type 0 where
  pub out : (host : List ℕ) (port : ℕ) → new.out host port ≡ old.out host port
  pub back : new.back ≡ old.back ++ reverse (map unused ends)

-- What a host shows of itself where an opening was refused and all came back: its count of faults rose where a fault is
-- answered, and nothing else changed.
pub record ListensRefused (refused : NameRefused) (ends : List Endpoint) (old new : HostState) : Type 0 where
  pub state : new ≡ record old { listeners = new.listeners; faults = new.faults }
  pub faults : FaultsBy {T = Unit {0}} (Err refused) old.faults new.faults
  pub told : Tells old.listeners new.listeners (CameUnused ends)

-- One was not opened, or came back unused.
pub record ListenerUnopened (refused : NameRefused) (end : Endpoint) (old new : HostState) : Type 0 where
  pub ends : List Endpoint
  pub which : (ends ≡ []) ⊎ (ends ≡ end ∷ [])
  pub back : ListensRefused refused ends old new

-- A listener of the source at this place was opened and added.
pub record ListenerAdded {L : Type 0} (fresh : Endpoint → Option HandedOut → L → Type 0) (end : Endpoint) (place : ℕ) (old new : HostState) (before after : List (SourceListener L)) : Type 0 where
  pub listener : L
  pub is : after ≡ before ++ record { source = place; listener = listener } ∷ []
  pub fresh_then : fresh end old.listeners listener
  pub out : ListenersOut (end ∷ []) old new

-- each of them is fresh, for the address and port of its source
abbrev pub EachFresh : {L : Type 0} → (Endpoint → Option HandedOut → L → Type 0) → List SourcePlan → Option HandedOut → List (SourceListener L) → Type 0
EachFresh fresh sources all [] = Unit {0}
EachFresh fresh sources all (l ∷ listeners) = fresh (end_at sources l.source) all l.listener × EachFresh fresh sources all listeners

-- Listeners of the sources at these places were opened, in order.
pub record ListenersOpened {L : Type 0} (fresh : Endpoint → Option HandedOut → L → Type 0) (sources : List SourcePlan) (places : List ℕ) (old new : HostState) (listeners : List (SourceListener L)) : Type 0 where
  pub order : map (λ (l : SourceListener L). l.source) listeners ≡ places
  pub fresh_each : EachFresh fresh sources old.listeners listeners
  pub out : ListenersOut (map (end_at sources) places) old new
