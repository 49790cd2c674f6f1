use Rattle.world_laws.proofs.Marking.{begun_marks, taken_marks, committed_marks, rolled_back_marks}
use Rattle.world_laws.proofs.marks.takes_are_marked.Goals as goal

pub returns : goal.returns
returns g c = record {
  begun = begun_marks (g.T.Face.seen c.args.face.now);
  taken = taken_marks (g.T.Face.seen c.args.face.now);
  committed = committed_marks (g.T.Face.saw c.args.face.now) (g.T.Face.seen c.args.face.now);
  rolled_back = rolled_back_marks (g.T.Face.saw c.args.face.now);
}
