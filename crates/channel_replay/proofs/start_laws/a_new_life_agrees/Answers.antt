use Rattle.channel_replay.proofs.Agreeing.{new_life_agrees}
use Rattle.channel_replay.proofs.start_laws.a_new_life_agrees.Goals as goal

pub returns : goal.returns
returns c = new_life_agrees
