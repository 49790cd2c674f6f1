use Rattle.world_laws.proofs.Reaching.{kept_down}
use Rattle.world_laws.proofs.laws.acknowledged_is_kept_down.Goals as goal

pub returns : goal.returns
returns c = kept_down
