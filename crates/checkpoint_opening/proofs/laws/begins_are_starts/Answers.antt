use Rattle.checkpoint_opening.proofs.Begun.{begins_are_starts}
use Rattle.checkpoint_opening.proofs.laws.begins_are_starts.Goals as goal

pub returns : goal.returns
returns c = begins_are_starts
