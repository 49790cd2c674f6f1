use Rattle.channel_laws.proofs.Staging.{kept_if_settled}
use Rattle.channel_laws.proofs.tickets.settled_is_in_journal.Goals as goal

pub returns : goal.returns
returns c = kept_if_settled
