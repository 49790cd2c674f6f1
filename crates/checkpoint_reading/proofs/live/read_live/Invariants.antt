use Rattle.checkpoint_reading.proofs.Living.{LiveOnWay}
use Rattle.checkpoint_reading.proofs.live.read_live.Given as goal

abbrev pub invariant-loop-more : goal.invariant-loop-more
invariant-loop-more g l = LiveOnWay (g.D.Disk.told l.fn.disk) (g.D.Disk.told l.disk) (g.D.Disk.faults l.fn.disk) (g.D.Disk.faults l.disk) l.fn.reader l.reader l.known l.fn.draft.place l.fn.draft.next l.draft l.low l.more

abbrev pub decreases-loop-more : goal.decreases-loop-more
decreases-loop-more g l = l.more
