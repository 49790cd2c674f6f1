-- What the Avro sinks of a run asked of the agents that they send to.
use Rattle.std.specs.Prelude.{◌≡◌, ◌<◌, ◌++◌, ℕ, suc, List, [], ◌∷◌, length, reverse, slice_get, slice_index_or, Some, string_bytes}
use Rattle.std.specs.List.{AllByRecursion}
use Rattle.channel_face.specs.Faces.{Own}
use Rattle.agent_plan.specs.declared.plan.SinkKind.{SinkKind}
use Rattle.agent_plan.specs.declared.plan.SinkKind.TheVariants as plan
use Rattle.agent_plan.specs.declared.plan.SinkPlan.{SinkPlan}
use Rattle.flume_host.specs.HandedOut.{CameBack, HandedOut}
use Rattle.flume_host.specs.HostState.{HostState}
use Rattle.flume_host.specs.Listens.{LinksTold}
use Rattle.flume_host.specs.Told.{Tells}
use Rattle.shared_channel.specs.Passes.{Known}
use Rattle.grouped_sinks.specs.Splits.{taken_at}
use Rattle.grouped_sinks.specs.declared.row.SinkRow.{SinkRow}
use Rattle.event_core.specs.Content.{Content}
use Rattle.sink_worker.specs.declared.worker.SinkWorker.{SinkWorker}
use Rattle.avro_requests.specs.Requests.{Delivery, Requested, delivered}
use Rattle.agent_run.specs.RolledTold.{WasTaken, calls_of}

-- By the calls of its worker, a sink made requests on these links. Each link that was given has come back. It took the requests of batches
-- whose replies on it said OK, and after them nothing, or a front of the request of a batch that was refused. The batches on all links, in
-- order, are those that the sink took.
pub record RequestsTold (own : List Own) (took : List (List Content)) (links : LinksTold) : Type 0 where
  pub done : List Delivery
  pub requested : Requested done links
  pub taken : AllByRecursion (λ (d : Delivery). WasTaken own d.batch) done
  pub these : delivered done ≡ took

-- A dialer of this address and port came back, and shows so of its links.
pub record DialBack (host : List ℕ) (port : ℕ) (Asked : LinksTold → Type 0) (one : CameBack) : Type 0 where
  pub of_host : one.host ≡ host
  pub of_port : one.port ≡ port
  pub links : LinksTold
  pub told : one.told ≡ Some links
  pub requests : Asked links

-- The first of these is the dialer of a sink of Avro, and of the others this holds; a sink of another kind has none.
abbrev pub IsDialBack : SinkKind → (LinksTold → Type 0) → List CameBack → (List CameBack → Type 0) → Type 0
IsDialBack (plan.Avro host port) Asked backs Rest =
    (one : CameBack) × (rest : List CameBack) × (backs ≡ one ∷ rest) × DialBack (string_bytes host) port Asked one × Rest rest
IsDialBack kind Asked backs Rest = Rest backs

-- these are the dialers of the sinks, in order, from this place of the plan on
abbrev pub AreDialsBack : (ℕ → LinksTold → Type 0) → ℕ → List SinkPlan → List CameBack → Type 0
AreDialsBack Asked place [] backs = backs ≡ []
AreDialsBack Asked place (plan ∷ plans) backs = IsDialBack plan.kind (Asked place) backs (AreDialsBack Asked (suc place) plans)

-- The sink at a place of the plan asked so, by the calls with the number of its row's worker in all that the pass of its channel had seen.
abbrev pub AskedAt : {S C : Type 0} → List SinkRow → List (SinkWorker Known S C) → List (List (ℕ × List Content)) → List Known → ℕ → LinksTold → Type 0
AskedAt {S} {C} rows jobs taken finals place links =
    (at in_row : ℕ) (row : SinkRow) (job : SinkWorker Known S C) (took : List (ℕ × List Content)) → at < length rows
    → slice_get (slice_index_or rows at row).places.items in_row ≡ Some place
    → RequestsTold (calls_of finals (slice_index_or jobs at job)) (taken_at in_row (slice_index_or taken at took)) links

-- Each dialer that was handed out has come back, and they show so of their links.
pub record DialsTold {S C : Type 0} (plans : List SinkPlan) (rows : List SinkRow) (jobs : List (SinkWorker Known S C)) (taken : List (List (ℕ × List Content)))
    (finals : List Known) (old new : HandedOut) : Type 0 where
  pub out : (host : List ℕ) (port : ℕ) → new.out host port ≡ old.out host port
  pub backs : List CameBack
  pub back : new.back ≡ old.back ++ reverse backs
  pub each : AreDialsBack (AskedAt rows jobs taken finals) 0 plans backs

-- So it is where the host shows its dialers.
abbrev pub DialedTold : {S C : Type 0} → List SinkPlan → List SinkRow → List (SinkWorker Known S C) → List (List (ℕ × List Content)) → List Known → HostState → HostState → Type 0
DialedTold plans rows jobs taken finals a b = Tells a.dialers b.dialers (DialsTold plans rows jobs taken finals)
