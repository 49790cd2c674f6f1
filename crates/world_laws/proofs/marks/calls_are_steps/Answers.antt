use Rattle.world_laws.proofs.Joining.{calls_join}
use Rattle.world_laws.proofs.marks.calls_are_steps.Goals as goal

pub returns : goal.returns
returns c = calls_join
