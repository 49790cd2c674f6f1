use Rattle.world_laws.proofs.Spilling.{spills}
use Rattle.world_laws.proofs.marks.spills_are_steps.Goals as goal

pub returns : goal.returns
returns c = spills
