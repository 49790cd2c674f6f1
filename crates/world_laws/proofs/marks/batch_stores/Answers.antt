use Rattle.world_laws.proofs.Marking.{batch_marks}
use Rattle.world_laws.proofs.marks.batch_stores.Goals as goal

pub returns : goal.returns
returns g c = λ e events result earlier own. batch_marks (g.P.Face.saw c.args.face.now) (g.P.Face.seen c.args.face.now) e events result earlier own
