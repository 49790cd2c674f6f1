use Rattle.std.proofs.Common.{true}
use Rattle.shared_channel.specs.Calls.{step}
use Rattle.shared_channel.proofs.shared.Shared.make_rollback.Given as goal

abbrev pub ghosts-count : goal.ghosts-count
ghosts-count g a = record { entry = step a.by (g.K.KindOfTxn.rolls_back (record { life = a.said.now.0.now; number = a.said.now.1.now }) true) (g.C.Channel.moment a.said.now.2.now.channel) }
