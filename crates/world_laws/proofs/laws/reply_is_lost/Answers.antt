use Rattle.world_laws.proofs.Worked.{begins, twice_there, rolled_back}
use Rattle.world_laws.proofs.laws.reply_is_lost.Goals as goal

pub returns : goal.returns
returns c = record { begins = begins; delivered = twice_there; other_reply = rolled_back }
