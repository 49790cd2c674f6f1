use Rattle.std.proofs.Common.{Some, refl}
use Rattle.host_memory.specs.Listens.{dialer_told}
use Rattle.host_memory.specs.HostWords.{dialers_of}
use Rattle.host_memory.proofs.mem_host.MemHostHost.dialer.Goals as goal

pub returns-in-Ok-hand_out-clause-state : goal.returns-in-Ok-hand_out-clause-state
returns-in-Ok-hand_out-clause-state c = (Some (dialers_of c.hand_out.new.self), refl, c.in-Ok-hand_out.ensures.out dialer_told (λ d. 0) (λ d. d.faults))
