use Rattle.sink_worker.specs.Rounds.{told}
use Rattle.run_tracks.proofs.Emptying.{drain_in_track, emptied_none}
use Rattle.run_tracks.proofs.Telling.{either_face, port_face}
use Rattle.run_tracks.proofs.laws.drain_is_in_track.Goals as goal

pub returns-clause-port : goal.returns-clause-port
returns-clause-port g c = drain_in_track _ _ _ (port_face _ g.A.Channel.stands) (told g.S.EventSink.delivers g.S.EventSink.faults)

pub returns-clause-port_none : goal.returns-clause-port_none
returns-clause-port_none g c = emptied_none _ _ _ (port_face _ g.A.Channel.stands) (told g.S.EventSink.delivers g.S.EventSink.faults)

pub returns-clause-either : goal.returns-clause-either
returns-clause-either g c = drain_in_track _ _ _ (either_face g.A.Channel.stands g.B.Channel.stands) (told g.S.EventSink.delivers g.S.EventSink.faults)

pub returns-clause-either_none : goal.returns-clause-either_none
returns-clause-either_none g c = emptied_none _ _ _ (either_face g.A.Channel.stands g.B.Channel.stands) (told g.S.EventSink.delivers g.S.EventSink.faults)
