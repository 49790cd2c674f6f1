use Rattle.std.proofs.Common.{length, ◌-◌, ◌≡◌, ◌≤◌, [], take}
use Rattle.source_put.specs.Tries.{Puts}
use Rattle.avro_ends.specs.Exchanges.{TakesBatch}
use Rattle.source_put.specs.Into.{into_of}
use Rattle.avro_ends.specs.Sessions.{Goes, IsOpen, held_in}
use Rattle.avro_ends.proofs.session.serve_piece.Given as goal

abbrev pub invariant-loop-at : goal.invariant-loop-at
invariant-loop-at g l = record {
  within : l.at ≤ length l.piece;
  opened : IsOpen l.packs.packing;
  well : g.L.Link.faults l.link ≡ g.L.Link.faults l.initial.link;
  halts : g.H.Halt.yes l.halt ≡ g.H.Halt.yes l.initial.halt;
  selector : l.intake.selector ≡ l.initial.intake.selector;
  host : l.intake.host ≡ l.initial.intake.host;
  goes : Goes (TakesBatch (Puts g.F.Face.own g.F.Face.saw g.F.Face.seen g.F.Face.kept) l.initial.intake.selector g.B.Interceptor.intercepts l.initial.intake.host)
      (into_of l.initial.intake (g.C.Clock.moments l.initial.clock)) (into_of l.intake (g.C.Clock.moments l.clock))
      (g.L.Link.told l.initial.link) (g.L.Link.told l.link) l.initial.hop l.hop (held_in l.initial.packs.packing) (take l.at l.piece) (held_in l.packs.packing) [] 0;
}

abbrev pub decreases-loop-at : goal.decreases-loop-at
decreases-loop-at g l = length l.piece - l.at
