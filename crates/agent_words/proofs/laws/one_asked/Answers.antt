use Rattle.agent_words.proofs.Unique as unique
use Rattle.agent_words.proofs.laws.one_asked.Goals as goal

pub returns : goal.returns
returns c = unique.one_asked
