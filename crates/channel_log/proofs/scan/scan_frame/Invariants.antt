use Rattle.std.proofs.Common.{◌-◌, length}
use Rattle.channel_log.proofs.ReadOn.{ReadOn}
use Rattle.channel_log.proofs.scan.scan_frame.Given as goal

abbrev pub invariant-loop-kind : goal.invariant-loop-kind
invariant-loop-kind l = ReadOn l.bytes l.at l.count

abbrev pub decreases-loop-kind : goal.decreases-loop-kind
decreases-loop-kind l = length l.bytes - l.at
