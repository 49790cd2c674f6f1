use Rattle.channel_laws.proofs.Later.{put_stays}
use Rattle.channel_laws.proofs.fronts.put_stays_in_journal.Goals as goal

pub returns : goal.returns
returns c = put_stays
