-- Which sinks of a run took what the workers of their rows committed.
use Rattle.std.specs.Prelude.{◌≡◌, ◌<◌, ℕ, List, [], Option, Result, length, slice_index_or}
use Rattle.std.specs.List.{AllByRecursion}
use Rattle.event_core.specs.Content.{Content}
use Rattle.agent_plan.specs.declared.plan.SinkPlan.{SinkPlan}
use Rattle.grouped_sinks.specs.Splits.{batches_of}
use Rattle.grouped_sinks.specs.declared.row.SinkRow.{SinkRow}
use Rattle.shared_channel.specs.Passes.{Known}
use Rattle.sink_worker.specs.declared.worker.SinkWorker.{SinkWorker}
use Rattle.channel_wishes.specs.Openings.{HostTold}
use Rattle.plug_in.specs.declared.sink.SinkRefused.{SinkRefused}
use Rattle.agent_run.specs.BoxedTold.{BoxedTold}
use Rattle.agent_run.specs.DialedTold.{DialedTold}
use Rattle.agent_run.specs.RolledTold.{CountsMore, RolledTold, calls_of, committed, seen_of}

-- Each batch whose commit the worker of a row asked for was taken by one of the sinks of the row, as long as calls are counted. A sink
-- is told by its place in the row: a sink that stands in no group has the place 0.
pub record RowTook {S C : Type 0} (finals : List Known) (row : SinkRow) (job : SinkWorker Known S C) (taken : List (ℕ × List Content)) : Type 0 where
  pub within : AllByRecursion (λ (t : ℕ × List Content). t.0 < length row.places.items) taken
  pub these : CountsMore (length (seen_of finals job).seen) → batches_of taken ≡ committed [] (calls_of finals job)

-- So many batches were taken in each row; the folders of rolled files have just those that their sinks took, in order, and so have the links
-- of Avro sinks; and each sink that was handed in was handed its own.
pub record MembersTold {S C Q : Type 0} (delivers : Q → List Content → ℕ → Result (Unit {0}) SinkRefused → Q → Type 0) (objects : List (Option Q))
    (plans : List SinkPlan) (rows : List SinkRow) (jobs : List (SinkWorker Known S C)) (finals : List Known) (a b : HostTold) : Type 0 where
  pub taken : List (List (ℕ × List Content))
  pub as_many : length taken ≡ length rows
  pub each : (at : ℕ) (row : SinkRow) (job : SinkWorker Known S C) (took : List (ℕ × List Content)) → at < length rows
      → RowTook finals (slice_index_or rows at row) (slice_index_or jobs at job) (slice_index_or taken at took)
  pub rolled : RolledTold plans rows jobs taken finals a.folders b.folders
  pub dialed : DialedTold plans rows jobs taken finals a.state b.state
  pub boxed : BoxedTold delivers objects plans rows jobs taken finals
