use Rattle.channel_face.proofs.LawLemmas.{least_first}
use Rattle.channel_face.proofs.laws.takes_least.Goals as goal

pub returns : goal.returns
returns c = least_first
