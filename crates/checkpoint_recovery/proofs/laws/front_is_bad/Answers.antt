use Rattle.checkpoint_recovery.proofs.Fronts.{front_is_bad}
use Rattle.checkpoint_recovery.proofs.laws.front_is_bad.Goals as goal

pub returns : goal.returns
returns c = front_is_bad
