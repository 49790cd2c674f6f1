use Rattle.std.proofs.Common.{◌-◌, ◌^◌}
use Rattle.channel_writing.proofs.Opening.{LogsOn, floor_of}
use Rattle.channel_writing.proofs.folder.last_log.Given as goal

abbrev pub invariant-loop-number : goal.invariant-loop-number
invariant-loop-number g l = LogsOn (g.D.Disk.told l.fn.disk) (g.D.Disk.told l.disk) (g.D.Disk.faults l.fn.disk) (g.D.Disk.faults l.disk) l.last

abbrev pub decreases-loop-number : goal.decreases-loop-number
decreases-loop-number g l = 2 ^ 32 - floor_of l.last
