use Rattle.std.proofs.Common.{◌≡◌}
use Rattle.txn_core.proofs.Steps.{shows_journaled}
use Rattle.txn_core.proofs.channel.MachineChannel.capacity.Goals as goal

pub returns : goal.returns
returns c = shows_journaled c.args.self.now (λ s. c.capacity.result ≡ s.rules.limits.capacity) c.capacity.ensures
