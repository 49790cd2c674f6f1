use Rattle.world_laws.proofs.Reaching.{none_twice}
use Rattle.world_laws.proofs.laws.no_delivery_is_named_twice.Goals as goal

pub returns : goal.returns
returns c = none_twice
