use Rattle.channel_replay.proofs.Laying.{laid_follows}
use Rattle.channel_replay.proofs.start_laws.what_is_laid_follows.Goals as goal

pub returns : goal.returns
returns c = laid_follows
