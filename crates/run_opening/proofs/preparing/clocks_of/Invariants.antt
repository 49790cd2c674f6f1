use Rattle.std.proofs.Common.{◌≡◌, ◌≤◌, ◌-◌, length}
use Rattle.std.specs.Vec.{vec_capacity}
use Rattle.run_opening.proofs.preparing.clocks_of.Given as goal

abbrev pub invariant-loop-clocks : goal.invariant-loop-clocks
invariant-loop-clocks g l = record {
  few : length l.clocks.items ≤ l.many;
  room : l.many ≤ vec_capacity l.clocks;
  state : g.H.Host.state l.host ≡ g.H.Host.state l.fn.host;
  folders : g.H.Host.folders l.host ≡ g.H.Host.folders l.fn.host;
}

abbrev pub decreases-loop-clocks : goal.decreases-loop-clocks
decreases-loop-clocks g l = l.many - length l.clocks.items
