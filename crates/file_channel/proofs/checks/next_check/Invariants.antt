use Rattle.std.proofs.Common.{◌-◌, ◌^◌}
use Rattle.file_channel.proofs.Numbering.{ChecksOn, floor_of}
use Rattle.file_channel.proofs.checks.next_check.Given as goal

abbrev pub invariant-loop-number : goal.invariant-loop-number
invariant-loop-number g l = ChecksOn (g.D.Disk.told l.fn.disk) (g.D.Disk.told l.disk) (g.D.Disk.faults l.fn.disk) (g.D.Disk.faults l.disk) l.last

abbrev pub decreases-loop-number : goal.decreases-loop-number
decreases-loop-number g l = 2 ^ 32 - floor_of l.last
