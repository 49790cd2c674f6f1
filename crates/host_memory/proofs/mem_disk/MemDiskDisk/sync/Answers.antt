use Rattle.std.proofs.Common.{◌∙◌}
use Rattle.flume_host.specs.Told.{On, Sync}
use Rattle.host_memory.proofs.Replay.{does_by}
use Rattle.host_memory.proofs.mem_disk.MemDiskDisk.sync.Goals as goal

pub returns-clause-done : goal.returns-clause-done
returns-clause-done c =
    let store = c.args.self.now.store in
    let new = c.sync-noted.new.self in
    does_by c.args.self.now.tells store.first.items new.first.items store.calls.items new.calls.items c.next_outcome-outcome.result c.sync-noted.result c.counted.result (On c.args.name Sync) (c.counted.ensures.same ∙ c.answered.ensures) c.sync-noted.ensures.done c.sync-noted.ensures.same
