use Rattle.std.proofs.Common.{take}
use Rattle.channel_replay.proofs.Lines.{FilesOn}
use Rattle.channel_replay.proofs.plain.lines_of.Given as goal

abbrev pub invariant-loop-file : goal.invariant-loop-file
invariant-loop-file l = FilesOn (take l.file-index l.files) l.lines.items
