use Rattle.std.proofs.Common.{◌∙◌}
use Rattle.flume_host.specs.Told.{On, Write}
use Rattle.host_memory.proofs.Replay.{does_by}
use Rattle.host_memory.proofs.mem_disk.MemDiskDisk.write_at.Goals as goal

pub returns-clause-done : goal.returns-clause-done
returns-clause-done c =
    let store = c.args.self.now.store in
    let new = c.write-noted.new.self in
    does_by c.args.self.now.tells store.first.items new.first.items store.calls.items new.calls.items c.next_outcome-outcome.result c.write-noted.result c.counted.result (On c.args.name (Write c.args.at c.args.bytes.now)) (c.counted.ensures.same ∙ c.answered.ensures) c.write-noted.ensures.done c.write-noted.ensures.same
