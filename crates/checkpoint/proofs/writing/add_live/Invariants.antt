use Rattle.std.proofs.Common.{◌≡◌, ◌≤◌, ◌-◌, ◌^◌, vec_capacity}
use Rattle.flume_host.specs.Told.{Changes, Tells}
use Rattle.flume_host.specs.declared.names.FileName.TheVariants.{Check}
use Rattle.event_ring.specs.Slots.{least_above}
use Rattle.checkpoint.specs.Newest.{IsPassedFile}
use Rattle.checkpoint.proofs.Spooling.{LiveSoFar}
use Rattle.checkpoint.proofs.writing.add_live.Given as goal

abbrev pub invariant-loop-event : goal.invariant-loop-event
invariant-loop-event g l = record {
  so_far : Tells (g.D.Disk.told l.fn.disk) (g.D.Disk.told l.disk) (Changes (Check l.number) IsPassedFile 0);
  room : vec_capacity l.fn.buffer ≤ vec_capacity l.buffer;
  later : g.D.Disk.faults l.disk ≡ g.D.Disk.faults l.fn.disk;
  live : LiveSoFar l.number (record { told = g.D.Disk.told l.fn.disk; at = l.fn.at; buffer = l.fn.buffer.items }) (record { told = g.D.Disk.told l.disk; at = l.place; buffer = l.buffer.items }) l.ring.live l.after;
}

abbrev pub decreases-loop-event : goal.decreases-loop-event
decreases-loop-event g l = 2 ^ 64 - least_above l.after
