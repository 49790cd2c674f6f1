use Rattle.std.proofs.Common.{◌-◌, ◌+◌, ◌^◌}
use Rattle.checkpoint_reading.proofs.Choosing.{ChosenUpTo, order}
use Rattle.checkpoint_reading.proofs.number.newest_number.Given as goal

abbrev pub invariant-loop-number : goal.invariant-loop-number
invariant-loop-number g l = ChosenUpTo (g.D.Disk.told l.fn.disk) (g.D.Disk.told l.disk) (g.D.Disk.faults l.fn.disk) (g.D.Disk.faults l.disk) l.after l.newest

abbrev pub decreases-loop-number : goal.decreases-loop-number
decreases-loop-number g l = 2 ^ 32 + 2 ^ 32 + 1 - order l.after
