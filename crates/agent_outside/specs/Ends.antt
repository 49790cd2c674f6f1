-- Listeners of sources that were opened and came back.
use Rattle.std.specs.Prelude.{◌≡◌, ◌≤◌, ◌+◌, ◌==◌, ◌&&◌, if◌then◌else◌, ℕ, zero, suc, Bool, List, [], ◌∷◌, ◌++◌, map, replicate, reverse, Option, None, Some, bytes_eq, string_bytes}
use Rattle.std.specs.List.{count_by}
use Rattle.flume_host.specs.HostState.{HostState}
use Rattle.flume_host.specs.HandedOut.{CameBack, HandedOut}
use Rattle.flume_host.specs.Listens.{Endpoint, IsFrom, LinksTold}
use Rattle.flume_host.specs.Told.{Tells}
use Rattle.agent_plan.specs.declared.plan.SourcePlan.{SourcePlan}
use Rattle.agent_plan.specs.declared.plan.SourceKind.{SourceKind}
use Rattle.agent_plan.specs.declared.plan.SourceKind.TheVariants.{Netcat, Avro, Stdin}
use Rattle.plan_objects.specs.Asks.{asks_of_source, has_asks}
use Rattle.agent_outside.specs.declared.listener.SourceListener.{SourceListener}

-- the address and the port at which a source of this kind listens; a source of standard input listens nowhere
abbrev pub end_of : SourceKind → Endpoint
end_of (Netcat bind port max_line ack threads) = record { host = string_bytes bind; port = port }
end_of (Avro bind port threads) = record { host = string_bytes bind; port = port }
end_of (Stdin max_line ack) = record { host = []; port = 0 }

abbrev pub Listens : SourceKind → Type 0
Listens (Netcat bind port max_line ack threads) = Unit {0}
Listens (Avro bind port threads) = Unit {0}
Listens (Stdin max_line ack) = ⊥

-- how many listeners it has, where it may have one only or more
abbrev pub listeners_by : Bool → SourceKind → ℕ
listeners_by one (Netcat bind port max_line ack threads) = if one then 1 else threads
listeners_by one (Avro bind port threads) = if one then 1 else threads
listeners_by one (Stdin max_line ack) = 0

-- How many listeners a source has: one for each of its session workers, of which there is one only where an interceptor was handed in.
abbrev pub listeners_of : SourcePlan → ℕ
listeners_of source = listeners_by (has_asks (asks_of_source source)) source.kind

-- the same of the source at a place
abbrev pub end_at : List SourcePlan → ℕ → Endpoint
end_at [] place = record { host = []; port = 0 }
end_at (source ∷ sources) zero = end_of source.kind
end_at (source ∷ sources) (suc place) = end_at sources place

abbrev pub ListensAt : List SourcePlan → ℕ → Type 0
ListensAt [] place = ⊥
ListensAt (source ∷ sources) zero = Listens source.kind
ListensAt (source ∷ sources) (suc place) = ListensAt sources place

-- The place of each source, in order, as often as it has something. The first of these sources has this place.
abbrev pub places_by : (SourcePlan → ℕ) → ℕ → List SourcePlan → List ℕ
places_by many place [] = []
places_by many place (source ∷ sources) = replicate (many source) place ++ places_by many (place + 1) sources

-- the place of the source of each listener
abbrev pub places : ℕ → List SourcePlan → List ℕ
places place sources = places_by listeners_of place sources

-- how many of these are at this address and port
abbrev pub is_end : List ℕ → ℕ → Endpoint → Bool
is_end host port end = (end.port == port) && bytes_eq end.host host

abbrev pub count_at : List ℕ → ℕ → List Endpoint → ℕ
count_at host port ends = count_by (is_end host port) ends

abbrev pub ends_of : List CameBack → List Endpoint
ends_of backs = map (λ (back : CameBack). record { host = back.host; port = back.port }) backs

-- these came back, the last of them first
pub record AllBack (backs : List CameBack) (old new : HandedOut) : Type 0 where
  pub out : (host : List ℕ) (port : ℕ) → old.out host port ≡ new.out host port + count_at host port (ends_of backs)
  pub back : new.back ≡ old.back ++ reverse backs

-- as many are out at each address and port, where the host shows it
abbrev pub AreOut : List Endpoint → Option HandedOut → Type 0
AreOut ends None = Unit {0}
AreOut ends (Some all) = (host : List ℕ) (port : ℕ) → count_at host port ends ≤ all.out host port

-- what a host shows of itself after these came back: nothing else changed
pub record ListenersBack (backs : List CameBack) (old new : HostState) : Type 0 where
  pub state : new ≡ record old { listeners = new.listeners }
  pub told : Tells old.listeners new.listeners (AllBack backs)

module _ {L : Type 0} (told : L → Option LinksTold) (waits faults : L → ℕ) where
  -- a listener, as it comes back for this address and port
  abbrev pub end_back : Endpoint → L → CameBack
  end_back end listener = record { host = end.host; port = end.port; told = told listener; waits = waits listener; faults = faults listener }

  -- for those of its source
  abbrev pub comes_back : List SourcePlan → SourceListener L → CameBack
  comes_back sources l = end_back (end_at sources l.source) l.listener

  abbrev pub come_back : List SourcePlan → List (SourceListener L) → List CameBack
  come_back sources listeners = map (comes_back sources) listeners

-- each source of these listeners listens, and the listener was handed out for its address and port
abbrev pub AreOfSources : {L : Type 0} → (L → Option Endpoint) → List SourcePlan → List (SourceListener L) → Type 0
AreOfSources endpoint sources [] = Unit {0}
AreOfSources endpoint sources (l ∷ listeners) =
    ListensAt sources l.source × IsFrom (end_at sources l.source).host (end_at sources l.source).port (endpoint l.listener) × AreOfSources endpoint sources listeners
