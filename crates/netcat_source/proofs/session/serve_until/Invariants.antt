use Rattle.std.proofs.Common.{◌-◌, ◌≡◌, ◌≤◌, ◌^◌, List, ℕ}
use Rattle.netcat_source.specs.Lines.{IsLine}
use Rattle.source_put.specs.Tries.{Puts}
use Rattle.netcat_source.specs.Into.{TakesLine, sides}
use Rattle.netcat_source.specs.Parts.{Goes, held_by}
use Rattle.netcat_source.proofs.session.serve_until.Given as goal

abbrev pub invariant-loop-turns : goal.invariant-loop-turns
invariant-loop-turns g l = record {
  few : l.turns ≤ 2 ^ 40;
  max : l.lines.max ≡ l.initial.lines.max;
  partial : IsLine l.lines.max (held_by l.lines);
  well : g.L.Link.faults l.link ≡ g.L.Link.faults l.initial.link;
  halts : g.H.Halt.yes l.halt ≡ g.H.Halt.yes l.initial.halt;
  selector : l.intake.selector ≡ l.initial.intake.selector;
  host : l.intake.host ≡ l.initial.intake.host;
  goes : (bytes : List ℕ) × Goes l.initial.lines.max l.ack (TakesLine (Puts g.F.Face.own g.F.Face.saw g.F.Face.seen g.F.Face.kept) l.initial.intake.selector g.B.Interceptor.intercepts l.initial.intake.host)
      (sides l.initial.intake (g.C.Clock.moments l.initial.clock) (g.L.Link.told l.initial.link)) (sides l.intake (g.C.Clock.moments l.clock) (g.L.Link.told l.link))
      (held_by l.initial.lines) bytes (held_by l.lines) bytes l.turns;
}

abbrev pub decreases-loop-turns : goal.decreases-loop-turns
decreases-loop-turns g l = 2 ^ 40 - l.turns
