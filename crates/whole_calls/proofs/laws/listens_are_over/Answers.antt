use Rattle.whole_calls.proofs.Leaving.{either_face, port_face}
use Rattle.whole_calls.proofs.Listening.{listens_over}
use Rattle.whole_calls.proofs.laws.listens_are_over.Goals as goal

pub returns-clause-port : goal.returns-clause-port
returns-clause-port g c = listens_over _ _ _ (port_face _ g.A.Channel.stands) (λ p. Unit {0}) g.I.Interceptor.intercepts

pub returns-clause-either : goal.returns-clause-either
returns-clause-either g c = listens_over _ _ _ (either_face g.A.Channel.stands g.B.Channel.stands) _ g.I.Interceptor.intercepts
