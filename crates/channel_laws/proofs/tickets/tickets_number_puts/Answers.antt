use Rattle.channel_laws.proofs.Staging.{numbers_puts}
use Rattle.channel_laws.proofs.tickets.tickets_number_puts.Goals as goal

pub returns : goal.returns
returns c = numbers_puts
