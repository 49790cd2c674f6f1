use Rattle.channel_log.proofs.Pointing.{one_event}
use Rattle.channel_log.proofs.laws.one_event_stands.Goals as goal

pub returns : goal.returns
returns c = one_event
