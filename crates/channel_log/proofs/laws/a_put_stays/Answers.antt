use Rattle.channel_log.proofs.Pointing.{put_stays}
use Rattle.channel_log.proofs.laws.a_put_stays.Goals as goal

pub returns : goal.returns
returns c = put_stays
