use Rattle.std.proofs.Common.{length}
use Rattle.channel_replay.proofs.Lines.{AppliedTo}
use Rattle.channel_replay.proofs.plain.apply_all.Given as goal

abbrev pub invariant-loop-line : goal.invariant-loop-line
invariant-loop-line l = AppliedTo l.fn.lines.items l.lines.items l.recovery

abbrev pub decreases-loop-line : goal.decreases-loop-line
decreases-loop-line l = length l.lines.items
