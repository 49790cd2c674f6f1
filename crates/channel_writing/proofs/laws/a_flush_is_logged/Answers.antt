use Rattle.channel_writing.proofs.Recovering.{flush_logged}
use Rattle.channel_writing.proofs.laws.a_flush_is_logged.Goals as goal

pub returns : goal.returns
returns c = flush_logged
