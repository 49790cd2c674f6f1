use Rattle.std.proofs.Common.{Some, refl}
use Rattle.host_memory.specs.Listens.{dialer_told}
use Rattle.host_memory.specs.HostWords.{dialers_of}
use Rattle.host_memory.proofs.mem_host.MemHostHost.keep_dialer.Goals as goal

pub returns-clause-state : goal.returns-clause-state
returns-clause-state c = (Some (dialers_of c.take_back.new.self), refl, c.take_back.ensures dialer_told (λ d. 0) (λ d. d.faults))
