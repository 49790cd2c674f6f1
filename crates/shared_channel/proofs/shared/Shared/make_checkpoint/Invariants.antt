use Rattle.channel_face.specs.Machine.{Checkpoint}
use Rattle.shared_channel.specs.Calls.{step}
use Rattle.shared_channel.proofs.shared.Shared.make_checkpoint.Given as goal

abbrev pub ghosts-count : goal.ghosts-count
ghosts-count g a = record { entry = step a.by (Checkpoint a.said.now.0.now) (g.C.Channel.moment a.said.now.1.now.channel) }
