use Rattle.std.proofs.Common.{◌∙◌}
use Rattle.flume_host.specs.Told.{On, Make}
use Rattle.host_memory.proofs.Replay.{does_by}
use Rattle.host_memory.proofs.mem_disk.MemDiskDisk.make.Goals as goal

pub returns-clause-done : goal.returns-clause-done
returns-clause-done c =
    let store = c.args.self.now.store in
    let new = c.make-noted.new.self in
    does_by c.args.self.now.tells store.first.items new.first.items store.calls.items new.calls.items c.next_outcome-outcome.result c.make-noted.result c.counted.result (On c.args.name Make) (c.counted.ensures.same ∙ c.answered.ensures) c.make-noted.ensures.done c.make-noted.ensures.same
