use Rattle.channel_writing.proofs.Recovering.{flush_recovers}
use Rattle.channel_writing.proofs.laws.a_flush_recovers.Goals as goal

pub returns : goal.returns
returns c = flush_recovers
