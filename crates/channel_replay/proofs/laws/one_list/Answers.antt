use Rattle.channel_replay.proofs.OneList.{has_one_list}
use Rattle.channel_replay.proofs.laws.one_list.Goals as goal

pub returns : goal.returns
returns c = has_one_list
