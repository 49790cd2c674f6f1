use Rattle.shared_channel.specs.Calls.{step}
use Rattle.shared_channel.proofs.shared.Shared.make_begin.Given as goal

abbrev pub ghosts-count : goal.ghosts-count
ghosts-count g a = record { entry = step a.by (g.K.KindOfTxn.begins a.said.now.0.now) (g.C.Channel.moment a.said.now.1.now.channel) }
