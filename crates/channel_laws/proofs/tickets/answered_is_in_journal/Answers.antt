use Rattle.channel_laws.proofs.Transactions.{answered_is_in_journal}
use Rattle.channel_laws.proofs.tickets.answered_is_in_journal.Goals as goal

pub returns : goal.returns
returns g c = λ tells o h number events earlier own. answered_is_in_journal (g.P.Face.saw c.args.face.now) (g.P.Face.seen c.args.face.now) tells o h number events earlier own
