use Rattle.channel_laws.proofs.Meeting.{own_committed}
use Rattle.channel_laws.proofs.tickets.own_committed_is_in_journal.Goals as goal

pub returns : goal.returns
returns g c = λ tells s start earlier own more seen token leads made commit. own_committed (g.C.Channel.stands c.args.channel.now) tells s start earlier own more seen leads made token commit
