use Rattle.checkpoint_reading.proofs.Complete as complete
use Rattle.checkpoint_reading.proofs.laws.fault_is_wrong.Goals as goal

pub returns : goal.returns
returns c = complete.fault_is_wrong
