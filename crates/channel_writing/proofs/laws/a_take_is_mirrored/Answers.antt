use Rattle.channel_writing.proofs.Taking.{take_mirrored}
use Rattle.channel_writing.proofs.laws.a_take_is_mirrored.Goals as goal

pub returns : goal.returns
returns c = take_mirrored
