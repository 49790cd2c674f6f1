use Rattle.std.proofs.Common.{◌≡◌, ◌≤◌, take, vec_capacity}
use Rattle.std.specs.Prelude.{flat_map}
use Rattle.flume_host.specs.Told.{Changes, Tells}
use Rattle.flume_host.specs.declared.names.FileName.TheVariants.{Check}
use Rattle.checkpoint.specs.Files.{Adds, spool}
use Rattle.checkpoint.specs.Newest.{IsPassedFile}
use Rattle.checkpoint.proofs.writing.add_items.Given as goal

abbrev pub invariant-loop-item : goal.invariant-loop-item
invariant-loop-item g l = record {
  so_far : Tells (g.D.Disk.told l.fn.disk) (g.D.Disk.told l.disk) (Changes (Check l.number) IsPassedFile 0);
  room : vec_capacity l.fn.buffer ≤ vec_capacity l.buffer;
  later : g.D.Disk.faults l.disk ≡ g.D.Disk.faults l.fn.disk;
  adds : Adds l.number (spool (g.D.Disk.told l.fn.disk) l.fn.at l.fn.buffer.items) (spool (g.D.Disk.told l.disk) l.place l.buffer.items) (flat_map g.I.Item.bytes (take l.item-index l.items));
}
