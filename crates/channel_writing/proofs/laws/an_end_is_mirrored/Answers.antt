use Rattle.channel_writing.proofs.Ending.{end_mirrored}
use Rattle.channel_writing.proofs.laws.an_end_is_mirrored.Goals as goal

pub returns : goal.returns
returns c = end_mirrored
