-- What a run left that ended well.
use Rattle.std.specs.Prelude.{◌≡◌, ℕ, List, Option, length}
use Rattle.channel_wishes.specs.Openings.{HostTold}
use Rattle.agent_end.specs.declared.ends.RunEnds.{RunEnds}
use Rattle.agent_plan.specs.declared.plan.Plan.{Plan}
use Rattle.grouped_sinks.specs.declared.row.SinkRow.{SinkRow}
use Rattle.shared_channel.specs.Passes.{Known}
use Rattle.agent_run.specs.DrainedTold.{DrainedTold}
use Rattle.agent_run.specs.FoldersTold.{FoldersTold}
use Rattle.agent_run.specs.ReportTold.{ReportTold}

-- A run that ended well left so much, by the passes that saw all calls of its channels, what those at home had seen when the workers were
-- joined, and what standard output had taken then: it is told what the folders hold, what the report says, and which sinks emptied their
-- channels.
pub record RunLeft (plan : Plan) (rows : List SinkRow) (ends : RunEnds) (homes : List Known) (output : Option (List ℕ)) (finals : List Known) (b : HostTold) : Type 0 where
  pub many : length finals ≡ length plan.channels.items
  pub folders : FoldersTold plan.channels.items b.folders finals
  pub report : ReportTold plan.channels.items finals output b.state
  pub drained : DrainedTold rows ends.drains.items homes finals
