use Rattle.agent_run.specs.Run.{IsAtRest}
use Rattle.agent_run.proofs.Knowing.{each_more}
use Rattle.agent_run.proofs.rests.channels_rest.Goals as goal

pub loop-channel-preserved : goal.loop-channel-preserved
loop-channel-preserved g c =
    each_more (IsAtRest g.D.Disk.told g.D.Disk.faults) c.args.closed.now c.loop-channel.channel-index c.channel-item.result c.loop-channel.invariant
    c.loop-channel-test.true c.channel-item.is c.channel_rests.ensures
