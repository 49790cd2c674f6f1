use Rattle.std.proofs.Common.{◌-◌, length, vec_len}
use Rattle.channel_log.proofs.Loads.{FillsOn}
use Rattle.channel_log.proofs.loading.fill.Given as goal

abbrev pub invariant-loop-into : goal.invariant-loop-into
invariant-loop-into g l = FillsOn (g.D.Disk.told l.fn.disk) (g.D.Disk.told l.disk) (g.D.Disk.faults l.fn.disk) (g.D.Disk.faults l.disk) l.file l.from l.fn.into.items l.into.items (length l.piece)

abbrev pub decreases-loop-into : goal.decreases-loop-into
decreases-loop-into g l = l.target - vec_len l.into
