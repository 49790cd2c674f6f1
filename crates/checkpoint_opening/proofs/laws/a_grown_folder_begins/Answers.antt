use Rattle.checkpoint_opening.proofs.Growing.{grown_begins}
use Rattle.checkpoint_opening.proofs.laws.a_grown_folder_begins.Goals as goal

pub returns : goal.returns
returns c = grown_begins
