use Rattle.world_laws.proofs.Keeping.{new_holds}
use Rattle.world_laws.proofs.laws.new_is_held.Goals as goal

pub returns : goal.returns
returns c = new_holds
