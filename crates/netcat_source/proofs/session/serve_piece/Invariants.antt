use Rattle.std.proofs.Common.{length, ◌-◌, ◌≡◌, ◌≤◌, [], take}
use Rattle.netcat_source.specs.Lines.{IsLine}
use Rattle.source_put.specs.Tries.{Puts}
use Rattle.netcat_source.specs.Into.{TakesLine, sides}
use Rattle.netcat_source.specs.Parts.{Goes, held_by}
use Rattle.netcat_source.proofs.session.serve_piece.Given as goal

abbrev pub invariant-loop-at : goal.invariant-loop-at
invariant-loop-at g l = record {
  within : l.at ≤ length l.piece;
  max : l.lines.max ≡ l.initial.lines.max;
  partial : IsLine l.lines.max (held_by l.lines);
  well : g.L.Link.faults l.link ≡ g.L.Link.faults l.initial.link;
  halts : g.H.Halt.yes l.halt ≡ g.H.Halt.yes l.initial.halt;
  selector : l.intake.selector ≡ l.initial.intake.selector;
  host : l.intake.host ≡ l.initial.intake.host;
  goes : Goes l.initial.lines.max l.ack (TakesLine (Puts g.F.Face.own g.F.Face.saw g.F.Face.seen g.F.Face.kept) l.initial.intake.selector g.B.Interceptor.intercepts l.initial.intake.host)
      (sides l.initial.intake (g.C.Clock.moments l.initial.clock) (g.L.Link.told l.initial.link)) (sides l.intake (g.C.Clock.moments l.clock) (g.L.Link.told l.link))
      (held_by l.initial.lines) (take l.at l.piece) (held_by l.lines) [] 0;
}

abbrev pub decreases-loop-at : goal.decreases-loop-at
decreases-loop-at g l = length l.piece - l.at
