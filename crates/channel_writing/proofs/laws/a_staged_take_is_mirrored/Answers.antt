use Rattle.channel_writing.proofs.Ending.{stage_take_mirrored}
use Rattle.channel_writing.proofs.laws.a_staged_take_is_mirrored.Goals as goal

pub returns : goal.returns
returns c = stage_take_mirrored
