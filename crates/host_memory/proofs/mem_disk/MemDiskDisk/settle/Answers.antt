use Rattle.std.proofs.Common.{◌∙◌}
use Rattle.flume_host.specs.Told.{Settle}
use Rattle.host_memory.proofs.Replay.{does_by}
use Rattle.host_memory.proofs.mem_disk.MemDiskDisk.settle.Goals as goal

pub returns-clause-done : goal.returns-clause-done
returns-clause-done c =
    let store = c.args.self.now.store in
    let new = c.settle-noted.new.self in
    does_by c.args.self.now.tells store.first.items new.first.items store.calls.items new.calls.items c.next_outcome-outcome.result c.settle-noted.result c.counted.result Settle (c.counted.ensures.same ∙ c.answered.ensures) c.settle-noted.ensures.done c.settle-noted.ensures.same
