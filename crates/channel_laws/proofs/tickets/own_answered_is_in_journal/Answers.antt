use Rattle.channel_laws.proofs.Meeting.{own_answered}
use Rattle.channel_laws.proofs.tickets.own_answered_is_in_journal.Goals as goal

pub returns : goal.returns
returns g c = λ tells s start earlier own more seen number events leads made batch. own_answered (g.C.Channel.stands c.args.channel.now) tells s start earlier own more seen leads made number events batch
