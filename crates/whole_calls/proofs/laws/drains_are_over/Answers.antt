use Rattle.sink_worker.specs.Rounds.{told}
use Rattle.whole_calls.proofs.Leaving.{drains_over, either_face, port_face}
use Rattle.whole_calls.proofs.laws.drains_are_over.Goals as goal

pub returns-clause-port : goal.returns-clause-port
returns-clause-port g c = drains_over _ _ _ (port_face _ g.A.Channel.stands) (told g.S.EventSink.delivers g.S.EventSink.faults)

pub returns-clause-either : goal.returns-clause-either
returns-clause-either g c = drains_over _ _ _ (either_face g.A.Channel.stands g.B.Channel.stands) (told g.S.EventSink.delivers g.S.EventSink.faults)
