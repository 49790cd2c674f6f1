use Rattle.channel_log.proofs.Pointing.{each_image}
use Rattle.channel_log.proofs.laws.stands_in_each_image.Goals as goal

pub returns : goal.returns
returns c = each_image
