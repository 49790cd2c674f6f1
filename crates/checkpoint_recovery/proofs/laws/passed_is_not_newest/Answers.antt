use Rattle.checkpoint_recovery.proofs.Elsewhere.{passed_is_not_newest}
use Rattle.checkpoint_recovery.proofs.laws.passed_is_not_newest.Goals as goal

pub returns : goal.returns
returns c = passed_is_not_newest
