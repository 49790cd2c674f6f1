use Rattle.std.proofs.Common.{◌≡◌, ◌≤◌, ◌-◌, length, take}
use Rattle.flume_host.specs.Told.{Tells}
use Rattle.roll_sink.specs.Rolls.{Grew}
use Rattle.roll_sink.proofs.write.write_all.Given as goal

abbrev pub invariant-loop-at : goal.invariant-loop-at
invariant-loop-at g l = (l.at ≤ length l.bytes) × (g.D.RollDir.faults l.dir ≡ g.D.RollDir.faults l.initial.dir) × Tells (g.D.RollDir.rolled l.initial.dir) (g.D.RollDir.rolled l.dir) (Grew (take l.at l.bytes))

abbrev pub decreases-loop-at : goal.decreases-loop-at
decreases-loop-at g l = length l.bytes - l.at
