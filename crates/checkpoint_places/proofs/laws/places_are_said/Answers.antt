use Rattle.checkpoint_places.proofs.Saying.{places_are_said}
use Rattle.checkpoint_places.proofs.laws.places_are_said.Goals as goal

pub returns : goal.returns
returns c = places_are_said
