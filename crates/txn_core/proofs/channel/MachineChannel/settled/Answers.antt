use Rattle.channel_face.specs.Machine.{settled}
use Rattle.std.proofs.Common.{◌≡◌}
use Rattle.txn_core.proofs.Steps.{shows_journaled}
use Rattle.txn_core.proofs.channel.MachineChannel.settled.Goals as goal

pub returns : goal.returns
returns c = shows_journaled c.args.self.now (λ s. c.settled.result ≡ settled s c.args.ticket.now) c.settled.ensures
