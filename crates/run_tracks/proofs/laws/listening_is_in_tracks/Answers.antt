use Rattle.run_tracks.proofs.Listened.{listened, listened_home}
use Rattle.run_tracks.proofs.Telling.{either_face, either_steady, port_face}
use Rattle.run_tracks.proofs.laws.listening_is_in_tracks.Goals as goal

pub returns-clause-port : goal.returns-clause-port
returns-clause-port g c = listened _ _ _ (port_face _ g.A.Channel.stands) (λ p. Unit {0}) (λ p q l. (λ x. x, λ x. x)) g.I.Interceptor.intercepts

pub returns-clause-port_home : goal.returns-clause-port_home
returns-clause-port_home g c = listened_home _ _ _ (port_face _ g.A.Channel.stands) (λ p. Unit {0}) (λ p q l. (λ x. x, λ x. x)) g.I.Interceptor.intercepts

pub returns-clause-either : goal.returns-clause-either
returns-clause-either g c = listened _ _ _ (either_face g.A.Channel.stands g.B.Channel.stands) _ either_steady g.I.Interceptor.intercepts

pub returns-clause-either_home : goal.returns-clause-either_home
returns-clause-either_home g c = listened_home _ _ _ (either_face g.A.Channel.stands g.B.Channel.stands) _ either_steady g.I.Interceptor.intercepts
