use Rattle.std.proofs.Common.{◌-◌, ◌^◌}
use Rattle.channel_replay.specs.Replay.{floor}
use Rattle.checkpoint_replay.proofs.Folders.{FoldersOn}
use Rattle.checkpoint_replay.proofs.reading.apply_behind.Given as goal

abbrev pub invariant-loop-next : goal.invariant-loop-next
invariant-loop-next g l = FoldersOn (g.D.Disk.told l.fn.disk) (g.D.Disk.told l.disk) (g.D.Disk.faults l.fn.disk) (g.D.Disk.faults l.disk) l.file (floor l.after) l.fn.index l.index l.fn.steps l.steps

abbrev pub decreases-loop-next : goal.decreases-loop-next
decreases-loop-next g l = 2 ^ 32 - floor l.after
