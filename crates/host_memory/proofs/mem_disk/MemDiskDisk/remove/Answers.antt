use Rattle.std.proofs.Common.{◌∙◌}
use Rattle.flume_host.specs.Told.{On, Remove}
use Rattle.host_memory.proofs.Replay.{does_by}
use Rattle.host_memory.proofs.mem_disk.MemDiskDisk.remove.Goals as goal

pub returns-clause-done : goal.returns-clause-done
returns-clause-done c =
    let store = c.args.self.now.store in
    let new = c.remove-noted.new.self in
    does_by c.args.self.now.tells store.first.items new.first.items store.calls.items new.calls.items c.next_outcome-outcome.result c.remove-noted.result c.counted.result (On c.args.name Remove) (c.counted.ensures.same ∙ c.answered.ensures) c.remove-noted.ensures.done c.remove-noted.ensures.same
