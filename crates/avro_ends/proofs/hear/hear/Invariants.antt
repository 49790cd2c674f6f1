use Rattle.std.proofs.Common.{◌-◌, ◌≡◌, ◌≤◌, ◌<◌, ◌^◌}
use Rattle.avro_ends.specs.Sessions.{IsOpen, held_in}
use Rattle.avro_ends.specs.Hearing.{Heard}
use Rattle.avro_ends.proofs.hear.hear.Given as goal

abbrev pub invariant-loop-turns : goal.invariant-loop-turns
invariant-loop-turns g l = record {
  few : l.turns ≤ 2 ^ 40;
  less : l.quiets < 100;
  opened : IsOpen l.packs.packing;
  well : g.L.Link.faults l.link ≡ g.L.Link.faults l.initial.link;
  heard : Heard 0 (held_in l.packs.packing) l.turns l.quiets (g.L.Link.told l.initial.link) (g.L.Link.told l.link);
}

abbrev pub decreases-loop-turns : goal.decreases-loop-turns
decreases-loop-turns g l = 2 ^ 40 - l.turns
