use Rattle.channel_laws.proofs.Staging.{settles_in_life}
use Rattle.channel_laws.proofs.tickets.settling_settles.Goals as goal

pub returns : goal.returns
returns c = settles_in_life
