use Rattle.channel_log.proofs.Pointing.{pending_stands}
use Rattle.channel_log.proofs.laws.a_pending_put_stands.Goals as goal

pub returns : goal.returns
returns c = pending_stands
