use Rattle.std.proofs.Common.{◌-◌, ◌^◌}
use Rattle.ring_replay.proofs.Files.{ReadsOn}
use Rattle.ring_replay.proofs.folder.apply_rest.Given as goal

abbrev pub invariant-loop-outline : goal.invariant-loop-outline
invariant-loop-outline g l = ReadsOn (g.D.Disk.told l.fn.disk) (g.D.Disk.told l.disk) (g.D.Disk.faults l.fn.disk) (g.D.Disk.faults l.disk) l.file l.fn.reader l.reader l.fn.index l.index l.fn.steps l.steps

abbrev pub decreases-loop-outline : goal.decreases-loop-outline
decreases-loop-outline g l = 2 ^ 64 - l.reader.at
