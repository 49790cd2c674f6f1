use Rattle.channel_writing.proofs.Mirroring.{put_mirrored}
use Rattle.channel_writing.proofs.laws.a_put_is_mirrored.Goals as goal

pub returns : goal.returns
returns c = put_mirrored
