use Rattle.source_worker.specs.Workers.{heard_of}
use Rattle.sink_worker.specs.Rounds.{told}
use Rattle.agent_run.proofs.Talking.{ends_well, ran_unless}
use Rattle.agent_run.proofs.laws.workers_ran.Goals as goal

pub returns-clause-ran : goal.returns-clause-ran
returns-clause-ran g c =
    ran_unless _ (told g.S.EventSink.delivers g.S.EventSink.faults) g.K.Interceptor.intercepts g.C.Clock.moments (heard_of g.N.Listener.told g.N.Listener.faults g.N.Listener.waits)
    g.I.Source.left g.I.Source.faults g.O.Sink.took g.O.Sink.handed g.O.Sink.faults

pub returns-clause-well : goal.returns-clause-well
returns-clause-well g c =
    ends_well _ (told g.S.EventSink.delivers g.S.EventSink.faults) g.K.Interceptor.intercepts g.C.Clock.moments (heard_of g.N.Listener.told g.N.Listener.faults g.N.Listener.waits)
    g.I.Source.left g.I.Source.faults g.O.Sink.took g.O.Sink.handed g.O.Sink.faults
