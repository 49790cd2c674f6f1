use Rattle.checkpoint_recovery.proofs.Elsewhere.{open_is_newest}
use Rattle.checkpoint_recovery.proofs.laws.open_is_newest.Goals as goal

pub returns : goal.returns
returns c = open_is_newest
