use Rattle.world_laws.proofs.Keeping.{step_holds}
use Rattle.world_laws.proofs.laws.each_step_keeps_the_accounting.Goals as goal

pub returns : goal.returns
returns c = step_holds
