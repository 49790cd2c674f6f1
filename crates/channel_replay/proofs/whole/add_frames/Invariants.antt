use Rattle.std.proofs.Common.{◌-◌, length}
use Rattle.channel_replay.proofs.Reading.{FramesOn}
use Rattle.channel_replay.proofs.whole.add_frames.Given as goal

abbrev pub invariant-loop-gate : goal.invariant-loop-gate
invariant-loop-gate l = FramesOn l.bytes l.gate l.file l.fn.lines.items l.lines.items

abbrev pub decreases-loop-gate : goal.decreases-loop-gate
decreases-loop-gate l = length l.bytes - l.gate
