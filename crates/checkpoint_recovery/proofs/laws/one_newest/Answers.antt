use Rattle.checkpoint_recovery.proofs.Elsewhere.{one_newest}
use Rattle.checkpoint_recovery.proofs.laws.one_newest.Goals as goal

pub returns : goal.returns
returns c = one_newest
