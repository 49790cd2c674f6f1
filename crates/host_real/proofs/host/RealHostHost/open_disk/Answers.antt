use Rattle.std.proofs.Common.{refl}
use Rattle.host_real.proofs.host.RealHostHost.open_disk.Goals as goal

pub returns-in_default-clause-state : goal.returns-in_default-clause-state
returns-in_default-clause-state c = (c.args.self.now.faults, refl, λ e. cc)
