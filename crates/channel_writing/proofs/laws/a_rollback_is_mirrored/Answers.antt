use Rattle.channel_writing.proofs.Ending.{rollback_mirrored}
use Rattle.channel_writing.proofs.laws.a_rollback_is_mirrored.Goals as goal

pub returns : goal.returns
returns c = rollback_mirrored
