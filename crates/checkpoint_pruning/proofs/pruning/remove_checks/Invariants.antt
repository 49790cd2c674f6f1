use Rattle.std.proofs.Common.{◌-◌, ◌≤◌}
use Rattle.checkpoint_pruning.proofs.Removing.{RemovedTo, checks_kind}
use Rattle.checkpoint_pruning.proofs.pruning.remove_checks.Given as goal

abbrev pub invariant-loop-number : goal.invariant-loop-number
invariant-loop-number g l = RemovedTo checks_kind (g.D.Disk.told l.fn.disk) (g.D.Disk.told l.disk) (g.D.Disk.faults l.fn.disk) (g.D.Disk.faults l.disk) l.low l.count × (l.low ≤ l.fn.laid)

abbrev pub decreases-loop-number : goal.decreases-loop-number
decreases-loop-number g l = l.fn.laid - l.low
