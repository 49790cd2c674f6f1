-- What the sinks of a run wrote into their folders of rolled files.
use Rattle.std.specs.Prelude.{◌≡◌, ◌<◌, ◌-◌, ◌^◌, ◌++◌, ℕ, List, [], ◌∷◌, length, slice_get, slice_index_or, Some}
use Rattle.std.specs.List.{AllByRecursion}
use Rattle.event_core.specs.Content.{Content}
use Rattle.channel_face.specs.Faces.{Own}
use Rattle.channel_face.specs.History.{opening}
use Rattle.channel_face.specs.Machine.{Call, BeginTake, StageTake}
use Rattle.agent_plan.specs.declared.plan.SinkPlan.{SinkPlan}
use Rattle.flume_host.specs.HostState.{Folders}
use Rattle.flume_host.specs.Rolled.{Rolled, opened}
use Rattle.flume_host.specs.Told.{Tells}
use Rattle.roll_sink.specs.Runs.{Delivery, Filled, Fills, delivered}
use Rattle.grouped_sinks.specs.Splits.{taken_at}
use Rattle.grouped_sinks.specs.declared.row.SinkRow.{SinkRow}
use Rattle.shared_channel.specs.Passes.{Known}
use Rattle.shared_channel.specs.Ports.{own_calls}
use Rattle.sink_runner.specs.Laws.{given_by}
use Rattle.sink_worker.specs.declared.worker.SinkWorker.{SinkWorker}
use Rattle.channel_lock.specs.Views.{View}
use Rattle.agent_outside.specs.Sinks.{folder_of}

-- what a worker's transaction of takes has taken after one more of its calls; a begin is the first of a new one
abbrev pub taken_behind : List Content → Call → List Content
taken_behind events (BeginTake reply) = []
taken_behind events call = events ++ given_by call

-- what is committed by a call: a stage of takes asks for the commit of what had been taken
abbrev pub committed_by : List Content → Call → List (List Content)
committed_by events (StageTake token reply) = events ∷ []
committed_by events call = []

-- The events of each transaction of takes whose commit was asked for, in order.
abbrev pub committed : List Content → List Own → List (List Content)
committed events [] = []
committed events (own ∷ calls) = committed_by events own.call ++ committed (taken_behind events own.call) calls

-- what the transaction that was begun last had taken after these calls
abbrev pub taken_since : List Content → List Own → List Content
taken_since events [] = events
taken_since events (own ∷ calls) = taken_since (taken_behind events own.call) calls

-- at some moment a transaction had taken just this batch
abbrev pub WasTaken : List Own → List Content → Type 0
WasTaken own batch = (front rest : List Own) × (own ≡ front ++ rest) × (taken_since [] front ≡ batch)

-- after so many calls of a channel a further one is counted
abbrev pub CountsMore : ℕ → Type 0
CountsMore seen = seen < 2 ^ 64 - 1025

-- all that the pass of a worker's channel had seen
abbrev pub seen_of : {S C : Type 0} → List Known → SinkWorker Known S C → View
seen_of finals job = (slice_index_or finals job.channel job.port).view

-- all calls with the worker's number in it
abbrev pub calls_of : {S C : Type 0} → List Known → SinkWorker Known S C → List Own
calls_of finals job = let all = seen_of finals job in own_calls (job.port.number ∷ []) (opening all.base) all.seen

-- By the calls of its worker, a sink filled a folder. After the files that were there it has others. They hold the batches that the sink
-- took, each whole in one file, once and in order; and after its batches a file has nothing, or a front of a batch that was taken out of
-- the channel, and refused for a fault of the folder.
pub record FilesTold (own : List Own) (took : List (List Content)) (old new : Rolled) : Type 0 where
  pub done : List Delivery
  pub filled : List Filled
  pub fills : Fills done filled old.files new.files
  pub taken : AllByRecursion (λ (d : Delivery). WasTaken own d.batch) done
  pub these : delivered done ≡ took

-- no sink of the plan but the one at this place has this folder
abbrev pub IsOnlyAt : List SinkPlan → ℕ → List ℕ → Type 0
IsOnlyAt plans place path =
    (other : ℕ) (plan : SinkPlan) → other < length plans → folder_of (slice_index_or plans other plan).kind ≡ path ∷ [] → other ≡ place

-- Each sink of rolled files filled its folder so, by the calls with the number of its row's worker in all that the pass of its channel had seen,
-- with the batches that it took.
pub record RolledTold {S C : Type 0} (plans : List SinkPlan) (rows : List SinkRow) (jobs : List (SinkWorker Known S C)) (taken : List (List (ℕ × List Content)))
    (finals : List Known) (a b : Folders) : Type 0 where
  pub each : (at in_row place : ℕ) (row : SinkRow) (plan : SinkPlan) (job : SinkWorker Known S C) (took : List (ℕ × List Content)) (path : List ℕ)
      → at < length rows → slice_get (slice_index_or rows at row).places.items in_row ≡ Some place
      → folder_of (slice_index_or plans place plan).kind ≡ path ∷ [] → IsOnlyAt plans place path
      → Tells (opened (a.rolls path)) (b.rolls path) (FilesTold (calls_of finals (slice_index_or jobs at job)) (taken_at in_row (slice_index_or taken at took)))
