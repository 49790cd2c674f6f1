use Rattle.channel_writing.proofs.Laid.{laid_goes_on}
use Rattle.channel_writing.proofs.laws.a_laid_log_goes_on.Goals as goal

pub returns : goal.returns
returns c = laid_goes_on
