use Rattle.std.proofs.Common.{◌≡◌, ℕ, List, ◌++◌, length}
use Rattle.run_tracks.specs.Homes.{AreHomes, EachTook, StayElsewhere}
use Rattle.run_tracks.specs.Places.{AreAt, TookEach}
use Rattle.run_tracks.proofs.bring.end_ports.Given as goal

abbrev pub invariant-loop-port : goal.invariant-loop-port
invariant-loop-port g l = record {
  homes : AreHomes g.S.Joins.table l.shares l.homes;
  kept : EachTook l.fn.homes l.homes;
  at : AreAt g.S.Joins.table l.shares g.F.Carries.pass l.places.items l.left.items;
  rest : (cs : List ℕ) × (ps : List g.row.F.Denot) × (l.fn.channels.items ≡ l.places.items ++ cs) × (l.fn.ports.items ≡ l.left.items ++ ps) × TookEach l.homes g.F.Carries.pass cs ps × StayElsewhere cs l.fn.homes l.homes;
}

abbrev pub decreases-loop-port : goal.decreases-loop-port
decreases-loop-port g l = length l.left.items
