use Rattle.channel_replay.proofs.Agreeing.{goes_on}
use Rattle.channel_replay.proofs.start_laws.following_goes_on.Goals as goal

pub returns : goal.returns
returns c = goes_on
