use Rattle.std.proofs.Common.{◌≡◌, List, length, take, drop}
use Rattle.source_worker.specs.Rounds.{Answer, MendsPort, any_refused}
use Rattle.source_worker.proofs.Mended.{AreMended}
use Rattle.source_worker.proofs.mending.mend_all.Given as goal

abbrev pub invariant-loop-place : goal.invariant-loop-place
invariant-loop-place g l = record {
  answers : List Answer;
  left : AreMended (MendsPort g.F.Face.own g.F.Face.saw g.F.Face.seen g.F.Face.kept g.F.MendFace.on_disk) l.fn.intake.ports answers (take l.place l.intake.ports) (drop l.place l.intake.ports);
  refused : l.refused ≡ any_refused answers;
  as_many : length l.intake.ports ≡ length l.fn.intake.ports;
  same : l.intake ≡ record l.fn.intake { ports = l.intake.ports };
}
