use Rattle.std.proofs.Common.{◌≡◌}
use Rattle.txn_core.proofs.Steps.{shows_journaled}
use Rattle.txn_core.proofs.channel.MachineChannel.is_broken.Goals as goal

pub returns : goal.returns
returns c = shows_journaled c.args.self.now (λ s. c.is_broken.result ≡ s.broken) c.is_broken.ensures
