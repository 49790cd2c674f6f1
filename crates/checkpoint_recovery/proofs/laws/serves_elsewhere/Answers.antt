use Rattle.checkpoint_recovery.proofs.Elsewhere.{serves_elsewhere}
use Rattle.checkpoint_recovery.proofs.laws.serves_elsewhere.Goals as goal

pub returns : goal.returns
returns c = serves_elsewhere
