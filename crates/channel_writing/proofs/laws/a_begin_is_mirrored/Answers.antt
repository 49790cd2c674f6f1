use Rattle.channel_writing.proofs.Ending.{begin_mirrored}
use Rattle.channel_writing.proofs.laws.a_begin_is_mirrored.Goals as goal

pub returns : goal.returns
returns c = begin_mirrored
