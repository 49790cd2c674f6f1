use Rattle.std.proofs.Common.{◌-◌, ◌^◌}
use Rattle.channel_writing.proofs.Opening.{LogsOn, floor_of}
use Rattle.flume_host.specs.Told.{WhereTold}
use Rattle.file_channel.proofs.Measuring.{AreShortTo}
use Rattle.file_channel.proofs.opening.measure_logs.Given as goal

abbrev pub invariant-loop-number : goal.invariant-loop-number
invariant-loop-number g l = LogsOn (g.D.Disk.told l.fn.disk) (g.D.Disk.told l.disk) (g.D.Disk.faults l.fn.disk) (g.D.Disk.faults l.disk) l.last × WhereTold (g.D.Disk.told l.fn.disk) (λ t. AreShortTo t.reads l.last)

abbrev pub decreases-loop-number : goal.decreases-loop-number
decreases-loop-number g l = 2 ^ 32 - floor_of l.last
