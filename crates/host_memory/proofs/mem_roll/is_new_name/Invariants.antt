use Rattle.std.proofs.Common.{take}
use Rattle.flume_host.specs.Rolled.{IsNewName}
use Rattle.host_memory.specs.Rolls.{files_by}
use Rattle.host_memory.proofs.mem_roll.is_new_name.Given as goal

abbrev pub invariant-loop-file : goal.invariant-loop-file
invariant-loop-file l = IsNewName (files_by (take l.file-index l.files)) l.name
