use Rattle.channel_laws.proofs.Later.{taken_stays}
use Rattle.channel_laws.proofs.fronts.taken_stays_in_journal.Goals as goal

pub returns : goal.returns
returns c = taken_stays
