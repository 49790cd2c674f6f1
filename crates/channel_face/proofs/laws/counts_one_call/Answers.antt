use Rattle.channel_face.proofs.Tallies.{tally-push}
use Rattle.channel_face.proofs.laws.counts_one_call.Goals as goal

pub returns : goal.returns
returns c = tally-push
