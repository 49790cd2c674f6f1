use Rattle.channel_replay.proofs.OneList.{recovers_once}
use Rattle.channel_replay.proofs.laws.recovers_once.Goals as goal

pub returns : goal.returns
returns c = recovers_once
