use Rattle.channel_laws.proofs.Later.{taken_later}
use Rattle.channel_laws.proofs.Owned.{taken_is_in_journal}
use Rattle.channel_laws.proofs.ports.port_committed_is_in_journal.Goals as goal

pub returns : goal.returns
returns g c = λ v count token earlier more all own commit h begins. taken_later v.base v.seen h token begins (taken_is_in_journal g.C.Channel.stands g.C.Channel.tells v count earlier more all own token commit)
