use Rattle.std.proofs.Common.{◌-◌, length, vec_len}
use Rattle.channel_log.proofs.Loads.{SeeksOn}
use Rattle.channel_log.proofs.loading.load_frame.Given as goal

abbrev pub invariant-loop-length : goal.invariant-loop-length
invariant-loop-length g l = SeeksOn (g.D.Disk.told l.fn.disk) (g.D.Disk.told l.disk) (g.D.Disk.faults l.fn.disk) (g.D.Disk.faults l.disk) l.file l.gate l.fn.place l.place l.fn.read.items l.read.items (length l.piece)

abbrev pub decreases-loop-length : goal.decreases-loop-length
decreases-loop-length g l = l.rest - (vec_len l.read - l.place)
