use Rattle.channel_laws.proofs.Later.{batch_is_of_the_end}
use Rattle.channel_laws.proofs.fronts.batch_is_of_the_end.Goals as goal

pub returns : goal.returns
returns g c = batch_is_of_the_end g.C.Channel.stands
