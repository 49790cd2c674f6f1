use Rattle.channel_laws.proofs.Later.{put_later}
use Rattle.channel_laws.proofs.Owned.{put_is_in_journal}
use Rattle.channel_laws.proofs.ports.port_answered_is_in_journal.Goals as goal

pub returns : goal.returns
returns g c = λ v count number events earlier more all own batch keep h begins. put_later v.base v.seen h more events number begins (put_is_in_journal g.C.Channel.stands g.C.Channel.tells v count earlier more all own number events batch keep)
