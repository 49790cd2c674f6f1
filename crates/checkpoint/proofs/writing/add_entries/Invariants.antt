use Rattle.std.proofs.Common.{◌≡◌, ◌≤◌, ◌-◌, ◌^◌, vec_capacity}
use Rattle.flume_host.specs.Told.{Changes, Tells}
use Rattle.flume_host.specs.declared.names.FileName.TheVariants.{Check}
use Rattle.event_ring.specs.Slots.{least_above}
use Rattle.checkpoint.specs.Files.{spool}
use Rattle.checkpoint.specs.Newest.{IsPassedFile}
use Rattle.checkpoint.proofs.Spooling.{EntriesSoFar}
use Rattle.checkpoint.proofs.writing.add_entries.Given as goal

abbrev pub invariant-loop-txn : goal.invariant-loop-txn
invariant-loop-txn g l = record {
  so_far : Tells (g.D.Disk.told l.fn.disk) (g.D.Disk.told l.disk) (Changes (Check l.number) IsPassedFile 0);
  room : vec_capacity l.fn.buffer ≤ vec_capacity l.buffer;
  later : g.D.Disk.faults l.disk ≡ g.D.Disk.faults l.fn.disk;
  entries : EntriesSoFar l.number g.I.Item.bytes (spool (g.D.Disk.told l.fn.disk) l.fn.at l.fn.buffer.items) (spool (g.D.Disk.told l.disk) l.place l.buffer.items) (g.I.Item.listed l.table) l.after;
}

abbrev pub decreases-loop-txn : goal.decreases-loop-txn
decreases-loop-txn g l = 2 ^ 64 - least_above l.after
