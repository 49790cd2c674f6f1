use Rattle.whole_calls.proofs.Leaving.{either_face, port_face, puts_over}
use Rattle.whole_calls.proofs.laws.puts_are_over.Goals as goal

pub returns-clause-port : goal.returns-clause-port
returns-clause-port g c = puts_over _ _ _ (port_face _ g.A.Channel.stands)

pub returns-clause-either : goal.returns-clause-either
returns-clause-either g c = puts_over _ _ _ (either_face g.A.Channel.stands g.B.Channel.stands)
