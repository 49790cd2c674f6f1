use Rattle.checkpoint_reading.proofs.Complete as complete
use Rattle.checkpoint_reading.proofs.laws.right_is_read.Goals as goal

pub returns : goal.returns
returns c = complete.right_is_read
