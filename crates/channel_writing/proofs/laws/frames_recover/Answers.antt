use Rattle.channel_writing.proofs.Recovering.{frames_recover}
use Rattle.channel_writing.proofs.laws.frames_recover.Goals as goal

pub returns : goal.returns
returns c = frames_recover
