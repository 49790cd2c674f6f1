use Rattle.checkpoint_recovery.proofs.Kept.{pruned_recovers}
use Rattle.checkpoint_recovery.proofs.laws.pruning_changes_nothing.Goals as goal

pub returns : goal.returns
returns c = pruned_recovers
