use Rattle.channel_writing.proofs.Ending.{flush_mirrored}
use Rattle.channel_writing.proofs.laws.a_flush_is_mirrored.Goals as goal

pub returns : goal.returns
returns c = flush_mirrored
