use Rattle.std.proofs.Common.{arith}
use Rattle.host_memory.specs.Parts.{start}
use Rattle.host_memory.proofs.Tearing.{past_length}
use Rattle.host_memory.proofs.mem_disk.MemDisk.moments.Goals as goal

pub returns : goal.returns
returns c = omega (arith, c.len.ensures, c.args.self.now.store.calls.ok.0, past_length (start c.args.self.now.store.first.items) c.args.self.now.store.calls.items)
