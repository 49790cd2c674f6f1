use Rattle.checkpoint_places.proofs.Starting.{state_has_start}
use Rattle.checkpoint_places.proofs.laws.a_state_has_a_start.Goals as goal

pub returns : goal.returns
returns c = state_has_start
