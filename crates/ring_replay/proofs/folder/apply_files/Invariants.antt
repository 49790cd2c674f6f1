use Rattle.std.proofs.Common.{◌-◌, ◌^◌}
use Rattle.channel_replay.specs.Replay.{floor}
use Rattle.ring_replay.proofs.Folders.{FoldersOn}
use Rattle.ring_replay.proofs.folder.apply_files.Given as goal

abbrev pub invariant-loop-file : goal.invariant-loop-file
invariant-loop-file g l = FoldersOn (g.D.Disk.told l.fn.disk) (g.D.Disk.told l.disk) (g.D.Disk.faults l.fn.disk) (g.D.Disk.faults l.disk) (floor l.after) l.index l.fn.steps l.steps

abbrev pub decreases-loop-file : goal.decreases-loop-file
decreases-loop-file g l = 2 ^ 32 - floor l.after
