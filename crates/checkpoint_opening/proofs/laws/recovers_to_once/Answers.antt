use Rattle.checkpoint_opening.proofs.Once.{recovers_to_once}
use Rattle.checkpoint_opening.proofs.laws.recovers_to_once.Goals as goal

pub returns : goal.returns
returns c = recovers_to_once
