use Rattle.channel_laws.proofs.Telling.{stays_settled}
use Rattle.channel_laws.proofs.tickets.stays_settled.Goals as goal

pub returns : goal.returns
returns c = stays_settled
