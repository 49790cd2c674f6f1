use Rattle.sink_runner.proofs.Committing.{delivered_first}
use Rattle.sink_runner.proofs.laws.commits_what_it_delivered.Goals as goal

pub returns : goal.returns
returns g c = λ batch moment sink after turn earlier own. delivered_first (g.T.Face.saw c.args.face.now) (g.T.Face.seen c.args.face.now) g.S.EventSink.delivers batch moment sink after turn earlier own
