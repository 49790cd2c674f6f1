use Rattle.channel_face.specs.Calls.{cause_of}
use Rattle.shared_channel.specs.Calls.{step}
use Rattle.shared_channel.proofs.shared.Shared.make_stage.Given as goal

abbrev pub ghosts-count : goal.ghosts-count
ghosts-count g a = record { entry = step a.by (g.K.KindOfTxn.stages (record { life = a.said.now.0.now; number = a.said.now.1.now }) (cause_of a.said.now.2.now)) (g.C.Channel.moment a.said.now.3.now.channel) }
