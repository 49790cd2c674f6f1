use Rattle.std.proofs.Common.{length, ◌-◌, ◌≡◌, ◌≤◌, [], take}
use Rattle.flume_host.specs.Told.{Tells}
use Rattle.flume_host.specs.Links.{Talks, Waited}
use Rattle.flume_host.proofs.write.write_all.Given as goal

abbrev pub invariant-loop-at : goal.invariant-loop-at
invariant-loop-at g l = record {
  within : l.at ≤ length l.bytes;
  well : g.L.Link.faults l.link ≡ g.L.Link.faults l.initial.link;
  waits : g.L.Link.waits l.initial.link ≤ g.L.Link.waits l.link;
  waited : Tells (g.L.Link.told l.initial.link) (g.L.Link.told l.link) (Waited 0);
  talk : Tells (g.L.Link.told l.initial.link) (g.L.Link.told l.link) (Talks [] (take l.at l.bytes) 0);
}

abbrev pub decreases-loop-at : goal.decreases-loop-at
decreases-loop-at g l = length l.bytes - l.at
