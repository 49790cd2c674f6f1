use Rattle.std.proofs.Common.{◌≡◌, take}
use Rattle.flume_host.specs.Told.{Tells}
use Rattle.roll_sink.specs.Rolls.{Grew, roll_text}
use Rattle.roll_sink.proofs.write.write_batch.Given as goal

abbrev pub invariant-loop-i : goal.invariant-loop-i
invariant-loop-i g l = (g.D.RollDir.faults l.dir ≡ g.D.RollDir.faults l.initial.dir) × Tells (g.D.RollDir.rolled l.initial.dir) (g.D.RollDir.rolled l.dir) (Grew (roll_text (take l.i l.batch)))
