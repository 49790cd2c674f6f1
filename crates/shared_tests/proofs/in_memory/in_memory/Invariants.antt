use Rattle.std.proofs.Common.{[], true}
use Rattle.channel_face.specs.declared.replies.Kind.TheVariants.{Memory as InMemory}
use Rattle.shared_tests.proofs.in_memory.in_memory.Given as goal

abbrev pub ghost-share_in_memory : goal.ghost-share_in_memory
ghost-share_in_memory a = record { rules = record { kind = InMemory; limits = a.limits }; base = record { items = []; first = 0 }; txn = 1; faults = 0; from = 0; tells = true }
