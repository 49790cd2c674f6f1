use Rattle.checkpoint_places.proofs.Righting.{places_are_right}
use Rattle.checkpoint_places.proofs.laws.places_are_right.Goals as goal

pub returns : goal.returns
returns c = places_are_right
