use Rattle.world_laws.proofs.Spilling.{reached_on}
use Rattle.world_laws.proofs.marks.reached_goes_on.Goals as goal

pub returns : goal.returns
returns c = reached_on
