use Rattle.checkpoint_pruning.proofs.Keeping.{pruned_at_any_moment}
use Rattle.checkpoint_pruning.proofs.laws.pruned_at_any_moment.Goals as goal

pub returns : goal.returns
returns c = pruned_at_any_moment
