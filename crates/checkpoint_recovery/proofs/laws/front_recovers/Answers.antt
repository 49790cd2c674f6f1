use Rattle.checkpoint_recovery.proofs.Fronts.{front_recovers}
use Rattle.checkpoint_recovery.proofs.laws.front_recovers.Goals as goal

pub returns : goal.returns
returns c = front_recovers
