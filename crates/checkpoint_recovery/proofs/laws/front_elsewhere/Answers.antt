use Rattle.checkpoint_recovery.proofs.Elsewhere.{front_elsewhere}
use Rattle.checkpoint_recovery.proofs.laws.front_elsewhere.Goals as goal

pub returns : goal.returns
returns c = front_elsewhere
