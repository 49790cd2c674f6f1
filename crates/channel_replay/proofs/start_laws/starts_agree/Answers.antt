use Rattle.channel_replay.proofs.Agreeing.{starts_agree}
use Rattle.channel_replay.proofs.start_laws.starts_agree.Goals as goal

pub returns : goal.returns
returns c = starts_agree
