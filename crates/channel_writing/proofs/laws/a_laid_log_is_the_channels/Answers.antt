use Rattle.channel_writing.proofs.Laid.{laid_is_logged}
use Rattle.channel_writing.proofs.laws.a_laid_log_is_the_channels.Goals as goal

pub returns : goal.returns
returns c = laid_is_logged
