use Rattle.std.proofs.Common.{◌<◌, ℕ, get_or}
use Rattle.agent_run.specs.Run.{IsAtRest}
use Rattle.agent_run.proofs.rests.channels_rest.Given as goal

abbrev pub invariant-loop-channel : goal.invariant-loop-channel
invariant-loop-channel g l = (k : ℕ) → k < l.channel-index → (d : _) → IsAtRest g.D.Disk.told g.D.Disk.faults (get_or l.closed k d)
