use Rattle.std.proofs.Common.{◌≡◌, ◌≤◌, length}
use Rattle.std.specs.Vec.{vec_capacity}
use Rattle.run_opening.specs.Streams.{InTurn, TalkTaken}
use Rattle.run_opening.proofs.streams.take_talks.Given as goal

abbrev pub invariant-loop-turn : goal.invariant-loop-turn
invariant-loop-turn g l = record {
  many : length l.talks.items ≡ l._turn;
  room : l.many ≤ vec_capacity l.talks;
  taken : InTurn (TalkTaken g.H.Source.Source.left g.H.Source.Source.faults g.H.Sink.Sink.took g.H.Sink.Sink.handed g.H.Sink.Sink.faults)
      l.talks.items (g.H.Host.state l.fn.host) (g.H.Host.state l.host);
  folders : g.H.Host.folders l.host ≡ g.H.Host.folders l.fn.host;
}
