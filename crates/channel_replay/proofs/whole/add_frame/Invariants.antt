use Rattle.std.proofs.Common.{◌-◌, length}
use Rattle.channel_replay.proofs.Reading.{LinesOn}
use Rattle.channel_replay.proofs.whole.add_frame.Given as goal

abbrev pub invariant-loop-place : goal.invariant-loop-place
invariant-loop-place l = LinesOn l.frame l.place l.file l.from l.fn.lines.items l.lines.items

abbrev pub decreases-loop-place : goal.decreases-loop-place
decreases-loop-place l = length l.frame - l.place
