use Rattle.sink_worker.specs.Rounds.{told}
use Rattle.run_tracks.proofs.Finding.{empty_found_none}
use Rattle.run_tracks.proofs.Telling.{either_face, port_face}
use Rattle.run_tracks.proofs.laws.empty_run_found_none.Goals as goal

pub returns-clause-port : goal.returns-clause-port
returns-clause-port g c = empty_found_none _ _ _ (port_face _ g.A.Channel.stands) (told g.S.EventSink.delivers g.S.EventSink.faults)

pub returns-clause-either : goal.returns-clause-either
returns-clause-either g c = empty_found_none _ _ _ (either_face g.A.Channel.stands g.B.Channel.stands) (told g.S.EventSink.delivers g.S.EventSink.faults)
