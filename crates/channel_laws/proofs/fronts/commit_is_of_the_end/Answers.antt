use Rattle.channel_laws.proofs.Later.{commit_is_of_the_end}
use Rattle.channel_laws.proofs.fronts.commit_is_of_the_end.Goals as goal

pub returns : goal.returns
returns g c = commit_is_of_the_end g.C.Channel.stands
