use Rattle.channel_writing.proofs.Checking.{checkpoint_mirrored}
use Rattle.channel_writing.proofs.laws.a_checkpoint_is_mirrored.Goals as goal

pub returns : goal.returns
returns c = checkpoint_mirrored
