use Rattle.channel_writing.proofs.Ending.{stage_put_mirrored}
use Rattle.channel_writing.proofs.laws.a_staged_put_is_mirrored.Goals as goal

pub returns : goal.returns
returns c = stage_put_mirrored
