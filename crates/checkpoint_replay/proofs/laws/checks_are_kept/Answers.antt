use Rattle.checkpoint_replay.proofs.Checked.{checks_are_kept}
use Rattle.checkpoint_replay.proofs.laws.checks_are_kept.Goals as goal

pub returns : goal.returns
returns c = checks_are_kept
