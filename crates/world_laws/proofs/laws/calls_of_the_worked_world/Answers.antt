use Rattle.world_laws.proofs.Worked.{its_steps}
use Rattle.world_laws.proofs.laws.calls_of_the_worked_world.Goals as goal

pub returns : goal.returns
returns c = its_steps
