use Rattle.shared_channel.specs.Durables.{IsReopen}
use Rattle.shared_channel.proofs.shared.Shared.make_reopen.Given as goal

abbrev pub ghosts-count_one : goal.ghosts-count_one
ghosts-count_one g a = record { picks = λ e. IsReopen g.C.Channel.stands a.by (g.C.Channel.moment a.said.now.1.now.channel) a.said.now.0.now a.said.now.1.now.channel a.seat.now.me.0 e }
