use Rattle.channel_replay.proofs.Agreeing.{one_fault}
use Rattle.channel_replay.proofs.start_laws.a_fault_is_one_for_both.Goals as goal

pub returns : goal.returns
returns c = one_fault
