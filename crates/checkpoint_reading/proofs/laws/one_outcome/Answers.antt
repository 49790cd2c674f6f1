use Rattle.checkpoint_reading.proofs.Unique as unique
use Rattle.checkpoint_reading.proofs.laws.one_outcome.Goals as goal

pub returns : goal.returns
returns c = unique.one_outcome
