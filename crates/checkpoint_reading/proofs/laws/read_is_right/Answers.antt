use Rattle.checkpoint_reading.proofs.Sound as sound
use Rattle.checkpoint_reading.proofs.laws.read_is_right.Goals as goal

pub returns : goal.returns
returns c = sound.read_is_right
