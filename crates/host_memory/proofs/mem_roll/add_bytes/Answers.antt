use Rattle.std.proofs.Common.{ap, List, ℕ, arith, string_bytes}
use Rattle.host_memory.proofs.Rolling.{grew, same_files}
use Rattle.host_memory.proofs.mem_roll.add_bytes.Goals as goal

pub returns-in-Ok : goal.returns-in-Ok
returns-in-Ok c =
    grew c.args.files.now.items c.in-Some.last c.index_mut.result.now (record { name = c.index_mut.result.now.name; bytes = c.extend_from_slice.new.self }) c.args.bytes.now (omega arith) c.index_mut.ensures.value
    (ap (λ (b : List ℕ). record { name = string_bytes c.index_mut.result.now.name; bytes = b }) c.in-Ok.ensures.items)

pub returns-in-Err : goal.returns-in-Err
returns-in-Err c =
    same_files c.args.files.now.items c.in-Some.last c.index_mut.result.now (record { name = c.index_mut.result.now.name; bytes = c.extend_from_slice.new.self }) (omega arith) c.index_mut.ensures.value
    (ap (λ (b : List ℕ). record { name = string_bytes c.index_mut.result.now.name; bytes = b }) c.in-Err.ensures.items)
