use Rattle.std.proofs.Common.{◌-◌, ◌≡◌, ◌≤◌, ◌^◌, List, ℕ}
use Rattle.source_put.specs.Tries.{Puts}
use Rattle.avro_ends.specs.Exchanges.{TakesBatch}
use Rattle.source_put.specs.Into.{into_of}
use Rattle.avro_ends.specs.Sessions.{Goes, IsOpen, held_in}
use Rattle.avro_ends.proofs.session.serve_until.Given as goal

abbrev pub invariant-loop-turns : goal.invariant-loop-turns
invariant-loop-turns g l = record {
  few : l.turns ≤ 2 ^ 40;
  opened : IsOpen l.packs.packing;
  well : g.L.Link.faults l.link ≡ g.L.Link.faults l.initial.link;
  halts : g.H.Halt.yes l.halt ≡ g.H.Halt.yes l.initial.halt;
  selector : l.intake.selector ≡ l.initial.intake.selector;
  host : l.intake.host ≡ l.initial.intake.host;
  goes : (bytes : List ℕ) × Goes (TakesBatch (Puts g.F.Face.own g.F.Face.saw g.F.Face.seen g.F.Face.kept) l.initial.intake.selector g.B.Interceptor.intercepts l.initial.intake.host)
      (into_of l.initial.intake (g.C.Clock.moments l.initial.clock)) (into_of l.intake (g.C.Clock.moments l.clock))
      (g.L.Link.told l.initial.link) (g.L.Link.told l.link) l.initial.hop l.hop (held_in l.initial.packs.packing) bytes (held_in l.packs.packing) bytes l.turns;
}

abbrev pub decreases-loop-turns : goal.decreases-loop-turns
decreases-loop-turns g l = 2 ^ 40 - l.turns
