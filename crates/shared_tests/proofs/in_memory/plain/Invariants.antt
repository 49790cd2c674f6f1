use Rattle.std.proofs.Common.{[], true}
use Rattle.channel_face.specs.declared.replies.Kind.TheVariants.{File as OnFile}
use Rattle.shared_tests.proofs.in_memory.plain.Given as goal

abbrev pub ghost-share_machine : goal.ghost-share_machine
ghost-share_machine a = record { rules = record { kind = OnFile; limits = a.limits }; base = record { items = []; first = 0 }; txn = 1; faults = 0; from = 0; tells = true }
