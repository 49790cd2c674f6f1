use Rattle.std.proofs.Common.{◌-◌, ◌≡◌, ◌≤◌, ◌^◌, List, ℕ, length}
use Rattle.std.specs.Io.KnownBytes.{Consumes}
use Rattle.netcat_source.specs.Lines.{IsLine}
use Rattle.netcat_source.specs.Parts.{held_by}
use Rattle.line_session.specs.Parts.{Goes, sides}
use Rattle.line_session.proofs.session.serve_until.Given as goal

abbrev pub invariant-loop-taken : goal.invariant-loop-taken
invariant-loop-taken g l = record {
  few : l.taken ≤ 2 ^ 40;
  max : l.lines.max ≡ l.initial.lines.max;
  partial : IsLine l.lines.max (held_by l.lines);
  ready : g.L.LineStore.ready l.store;
  source_well : g.S.Source.faults l.source ≡ g.S.Source.faults l.initial.source;
  sink_well : g.K.Sink.faults l.sink ≡ g.K.Sink.faults l.initial.sink;
  goes : (bytes : List ℕ) × Consumes (g.S.Source.left l.initial.source) (g.S.Source.left l.source) bytes × (length bytes ≡ l.taken)
      × Goes l.initial.lines.max l.ack g.L.LineStore.stops g.L.LineStore.takes
      (sides l.initial.store (g.K.Sink.took l.initial.sink)) (sides l.store (g.K.Sink.took l.sink))
      (held_by l.initial.lines) bytes (held_by l.lines);
}

abbrev pub decreases-loop-taken : goal.decreases-loop-taken
decreases-loop-taken g l = 2 ^ 40 - l.taken
