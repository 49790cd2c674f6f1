use Rattle.std.proofs.Common.{take}
use Rattle.netcat_source.specs.Lines.{IsUnbroken}
use Rattle.netcat_source.proofs.lines.newline_in.Given as goal

abbrev pub invariant-loop-i : goal.invariant-loop-i
invariant-loop-i l = IsUnbroken (take l.i l.bytes)
