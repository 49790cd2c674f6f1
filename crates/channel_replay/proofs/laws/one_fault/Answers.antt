use Rattle.channel_replay.proofs.OneFault.{one_fault}
use Rattle.channel_replay.proofs.laws.one_fault.Goals as goal

pub returns : goal.returns
returns c = one_fault
