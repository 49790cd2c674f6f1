use Rattle.world_laws.proofs.Keeping.{new_holds, run_holds}
use Rattle.world_laws.proofs.laws.every_run_keeps_the_accounting.Goals as goal

pub returns : goal.returns
returns c = λ w steps is. run_holds w steps (new_holds w is)
