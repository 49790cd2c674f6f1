use Rattle.checkpoint_reading.proofs.Opening.{TakesOnWay}
use Rattle.checkpoint_reading.proofs.takes.read_takes.Given as goal

abbrev pub invariant-loop-more : goal.invariant-loop-more
invariant-loop-more g l = TakesOnWay (g.D.Disk.told l.fn.disk) (g.D.Disk.told l.disk) (g.D.Disk.faults l.fn.disk) (g.D.Disk.faults l.disk) l.fn.reader l.reader l.fn.draft l.draft l.low l.more

abbrev pub decreases-loop-more : goal.decreases-loop-more
decreases-loop-more g l = l.more
