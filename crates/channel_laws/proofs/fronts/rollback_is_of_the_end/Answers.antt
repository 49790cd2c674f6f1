use Rattle.channel_laws.proofs.Later.{rollback_is_of_the_end}
use Rattle.channel_laws.proofs.fronts.rollback_is_of_the_end.Goals as goal

pub returns : goal.returns
returns g c = rollback_is_of_the_end g.C.Channel.stands
