use Rattle.run_tracks.proofs.Telling.{batch_in_tracks, either_face, port_face}
use Rattle.run_tracks.proofs.laws.batch_is_in_tracks.Goals as goal

pub returns-clause-port : goal.returns-clause-port
returns-clause-port g c = batch_in_tracks _ _ _ (port_face _ g.A.Channel.stands) g.I.Interceptor.intercepts

pub returns-clause-either : goal.returns-clause-either
returns-clause-either g c = batch_in_tracks _ _ _ (either_face g.A.Channel.stands g.B.Channel.stands) g.I.Interceptor.intercepts
