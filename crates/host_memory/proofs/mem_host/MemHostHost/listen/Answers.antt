use Rattle.std.proofs.Common.{Some, refl}
use Rattle.host_memory.specs.Listens.{listener_told}
use Rattle.host_memory.specs.HostWords.{listeners_of}
use Rattle.host_memory.proofs.mem_host.MemHostHost.listen.Goals as goal

pub returns-in-Ok-hand_out-clause-state : goal.returns-in-Ok-hand_out-clause-state
returns-in-Ok-hand_out-clause-state c = (c.args.self.now.faults, Some (listeners_of c.hand_out.new.self), refl, c.in-Ok-hand_out.ensures.out listener_told (λ l. l.waits) (λ l. l.faults), refl)
