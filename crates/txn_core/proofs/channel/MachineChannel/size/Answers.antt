use Rattle.std.proofs.Common.{◌≡◌, length}
use Rattle.txn_core.proofs.Steps.{shows_journaled}
use Rattle.txn_core.proofs.channel.MachineChannel.size.Goals as goal

pub returns : goal.returns
returns c = shows_journaled c.args.self.now (λ s. c.size.result ≡ length s.items) c.size.ensures
