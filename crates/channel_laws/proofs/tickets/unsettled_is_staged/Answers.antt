use Rattle.channel_laws.proofs.Staging.{staged_if_not}
use Rattle.channel_laws.proofs.tickets.unsettled_is_staged.Goals as goal

pub returns : goal.returns
returns c = staged_if_not
