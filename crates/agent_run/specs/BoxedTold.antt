-- What the sinks of a run that were handed in were handed.
use Rattle.std.specs.Prelude.{◌≡◌, ◌<◌, ℕ, List, Option, Some, Result, length, slice_get, slice_index_or}
use Rattle.std.specs.List.{AllByRecursion}
use Rattle.event_core.specs.Content.{Content}
use Rattle.channel_face.specs.Faces.{Own}
use Rattle.agent_plan.specs.declared.plan.SinkPlan.{SinkPlan}
use Rattle.grouped_sinks.specs.Splits.{AllHanded, Handed, ok_batches, taken_at}
use Rattle.grouped_sinks.specs.declared.row.SinkRow.{SinkRow}
use Rattle.plan_objects.specs.Asks.{asked}
use Rattle.plug_in.specs.declared.sink.SinkRefused.{SinkRefused}
use Rattle.shared_channel.specs.Passes.{Known}
use Rattle.sink_worker.specs.declared.worker.SinkWorker.{SinkWorker}
use Rattle.agent_run.specs.RolledTold.{WasTaken, calls_of}

module _ {Q : Type 0} (delivers : Q → List Content → ℕ → Result (Unit {0}) SinkRefused → Q → Type 0) where
  -- By the calls of its worker, a sink was handed batches that had been taken out of the channel, one after the other. Those that it answered
  -- Ok are the ones that it took.
  pub record DeliveriesTold (own : List Own) (took : List (List Content)) (object : Q) : Type 0 where
    pub done : List Handed
    pub last : Q
    pub chain : AllHanded delivers done object last
    pub taken : AllByRecursion (λ (h : Handed). WasTaken own h.batch) done
    pub these : ok_batches done ≡ took

  -- Each sink that was handed in is the object at its place, and was handed so, by the calls with the number of its row's worker in all that
  -- the pass of its channel had seen, the batches that it took.
  pub record BoxedTold {S C : Type 0} (objects : List (Option Q)) (plans : List SinkPlan) (rows : List SinkRow) (jobs : List (SinkWorker Known S C))
      (taken : List (List (ℕ × List Content))) (finals : List Known) : Type 0 where
    pub each : (at in_row place : ℕ) (row : SinkRow) (plan : SinkPlan) (job : SinkWorker Known S C) (took : List (ℕ × List Content)) (name : List ℕ) (object : Option Q)
        → at < length rows → slice_get (slice_index_or rows at row).places.items in_row ≡ Some place
        → asked (slice_index_or plans place plan).kind ≡ Some name
        → (sink : Q) × (slice_index_or objects place object ≡ Some sink)
        × DeliveriesTold (calls_of finals (slice_index_or jobs at job)) (taken_at in_row (slice_index_or taken at took)) sink
