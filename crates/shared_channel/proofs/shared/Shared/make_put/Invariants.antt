use Rattle.channel_face.specs.Machine.{Put}
use Rattle.shared_channel.specs.Calls.{step}
use Rattle.shared_channel.proofs.shared.Shared.make_put.Given as goal

abbrev pub ghosts-count : goal.ghosts-count
ghosts-count g a = record { entry = step a.by (Put a.said.now.0.now a.said.now.1.now a.said.now.2.now) (g.C.Channel.moment a.said.now.3.now.channel) }
