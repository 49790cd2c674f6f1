use Rattle.sink_worker.specs.Rounds.{told}
use Rattle.run_tracks.proofs.Telling.{either_face, either_steady, port_face, rounds_home, rounds_in_track}
use Rattle.run_tracks.proofs.laws.rounds_are_in_track.Goals as goal

pub returns-clause-port : goal.returns-clause-port
returns-clause-port g c = rounds_in_track _ _ _ (port_face _ g.A.Channel.stands) (λ p. Unit {0}) (λ p q l. (λ x. x, λ x. x)) (told g.S.EventSink.delivers g.S.EventSink.faults)

pub returns-clause-port_home : goal.returns-clause-port_home
returns-clause-port_home g c = rounds_home _ _ _ (port_face _ g.A.Channel.stands) (λ p. Unit {0}) (λ p q l. (λ x. x, λ x. x)) (told g.S.EventSink.delivers g.S.EventSink.faults)

pub returns-clause-either : goal.returns-clause-either
returns-clause-either g c = rounds_in_track _ _ _ (either_face g.A.Channel.stands g.B.Channel.stands) _ either_steady (told g.S.EventSink.delivers g.S.EventSink.faults)

pub returns-clause-either_home : goal.returns-clause-either_home
returns-clause-either_home g c = rounds_home _ _ _ (either_face g.A.Channel.stands g.B.Channel.stands) _ either_steady (told g.S.EventSink.delivers g.S.EventSink.faults)
