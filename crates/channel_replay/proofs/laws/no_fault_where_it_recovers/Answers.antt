use Rattle.channel_replay.proofs.OneFault.{not_both}
use Rattle.channel_replay.proofs.laws.no_fault_where_it_recovers.Goals as goal

pub returns : goal.returns
returns c = not_both
