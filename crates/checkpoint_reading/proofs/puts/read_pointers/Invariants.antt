use Rattle.checkpoint_reading.proofs.Listing.{PointersOnWay}
use Rattle.checkpoint_reading.proofs.puts.read_pointers.Given as goal

abbrev pub invariant-loop-more : goal.invariant-loop-more
invariant-loop-more g l = PointersOnWay (g.D.Disk.told l.fn.disk) (g.D.Disk.told l.disk) (g.D.Disk.faults l.fn.disk) (g.D.Disk.faults l.disk) l.fn.reader l.reader l.known l.fn.txn l.fn.draft l.draft l.more l.fn.count

abbrev pub decreases-loop-more : goal.decreases-loop-more
decreases-loop-more g l = l.more
