use Rattle.checkpoint_recovery.proofs.Kept.{laid_recovers}
use Rattle.checkpoint_recovery.proofs.laws.laying_changes_nothing.Goals as goal

pub returns : goal.returns
returns c = laid_recovers
