use Rattle.channel_laws.proofs.Transactions.{committed_is_in_journal}
use Rattle.channel_laws.proofs.tickets.committed_is_in_journal.Goals as goal

pub returns : goal.returns
returns g c = λ tells o h token earlier own run left commit among. committed_is_in_journal (g.T.Face.saw c.args.face.now) (g.T.Face.seen c.args.face.now) tells o h token earlier own run left among commit
