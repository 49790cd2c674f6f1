use Rattle.agent_drafts.proofs.Meaning.{all_planned}
use Rattle.agent_drafts.proofs.laws.chains_are_as_planned.Goals as goal

pub returns : goal.returns
returns g c = λ steps own plans links are built. all_planned steps own plans links are built
