-- The program's steps as steps of the model.
use Rattle.std.specs.Prelude.{Option, None}
use Rattle.world_laws.specs.World.{Node}
use Rattle.world_laws.specs.Channels.{aside, failed, flushed}
use Rattle.world_laws.specs.Steps.{Step, accept, commit, end_attempt, end_work, mend, on_channel, output, restart, take_from}
use Rattle.hop_core.specs.declared.plan.HopStep.{HopStep}
use Rattle.hop_core.specs.declared.plan.HopStep.TheVariants as Hop

-- the step of the model that this one is
abbrev pub step_of : HopStep → Step
step_of (Hop.Offer node connection serial batch) =
    Step.Offer node (record { connection = connection; serial = serial }) batch
step_of (Hop.Deliver packet made) = Step.Deliver packet made
step_of (Hop.Accept node work channel) = Step.Accept node work channel
step_of (Hop.Flush node channel done) = Step.Flush node channel done
step_of (Hop.Acknowledge node work) = Step.Acknowledge node work
step_of (Hop.Take node channel attempt) = Step.Take node channel attempt
step_of (Hop.Send node attempt to connection serial) =
    Step.Send node attempt to (record { connection = connection; serial = serial })
step_of (Hop.Output node attempt) = Step.Output node attempt
step_of (Hop.Reply node attempt packet) = Step.Reply node attempt packet
step_of (Hop.Commit node attempt) = Step.Commit node attempt
step_of (Hop.Aside node channel events) = Step.Aside node channel events
step_of (Hop.Mend node channel kept) = Step.Mend node channel kept
step_of (Hop.EndAttempt node attempt) = Step.EndAttempt node attempt
step_of (Hop.EndWork node work) = Step.EndWork node work
step_of (Hop.Fail node channel) = Step.Fail node channel
step_of (Hop.Restart node kept) = Step.Restart node kept.items

-- what its node does in a step that sends nothing; none for the other steps
abbrev pub node_step : HopStep → Node → Option Node
node_step (Hop.Accept node work channel) n = accept work channel n
node_step (Hop.Flush node channel done) n = on_channel channel (flushed done) n
node_step (Hop.Take node channel attempt) n = take_from channel attempt n
node_step (Hop.Output node attempt) n = output attempt n
node_step (Hop.Commit node attempt) n = commit attempt n
node_step (Hop.Aside node channel events) n = on_channel channel (aside events) n
node_step (Hop.Mend node channel kept) n = mend channel kept n
node_step (Hop.EndAttempt node attempt) n = end_attempt attempt n
node_step (Hop.EndWork node work) n = end_work work n
node_step (Hop.Fail node channel) n = on_channel channel failed n
node_step (Hop.Restart node kept) n = restart kept.items n
node_step step n = None
