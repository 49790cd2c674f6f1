use Rattle.std.proofs.Common.{length, ◌-◌, ◌≡◌, ◌≤◌, take}
use Rattle.netcat_source.specs.Lines.{IsLine}
use Rattle.netcat_source.specs.Parts.{held_by}
use Rattle.line_session.specs.Parts.{Goes, sides}
use Rattle.line_session.proofs.session.serve_piece.Given as goal

abbrev pub invariant-loop-at : goal.invariant-loop-at
invariant-loop-at g l = record {
  within : l.at ≤ length l.piece;
  max : l.lines.max ≡ l.initial.lines.max;
  partial : IsLine l.lines.max (held_by l.lines);
  ready : g.L.LineStore.ready l.store;
  well : g.K.Sink.faults l.sink ≡ g.K.Sink.faults l.initial.sink;
  goes : Goes l.initial.lines.max l.ack g.L.LineStore.stops g.L.LineStore.takes
      (sides l.initial.store (g.K.Sink.took l.initial.sink)) (sides l.store (g.K.Sink.took l.sink))
      (held_by l.initial.lines) (take l.at l.piece) (held_by l.lines);
}

abbrev pub decreases-loop-at : goal.decreases-loop-at
decreases-loop-at g l = length l.piece - l.at
