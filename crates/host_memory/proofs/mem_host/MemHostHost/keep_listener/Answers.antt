use Rattle.std.proofs.Common.{Some, refl}
use Rattle.host_memory.specs.Listens.{listener_told}
use Rattle.host_memory.specs.HostWords.{listeners_of}
use Rattle.host_memory.proofs.mem_host.MemHostHost.keep_listener.Goals as goal

pub returns-clause-state : goal.returns-clause-state
returns-clause-state c = (Some (listeners_of c.take_back.new.self), refl, c.take_back.ensures listener_told (λ l. l.waits) (λ l. l.faults))
