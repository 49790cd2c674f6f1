use Rattle.sink_worker.specs.Rounds.{told}
use Rattle.source_worker.specs.Workers.{heard_of}
use Rattle.line_worker.specs.Workers.{talk_of}
use Rattle.agent_run.proofs.Finals.{runs_told}
use Rattle.agent_run.proofs.laws.runs_are_told.Goals as goal

pub returns : goal.returns
returns g c =
    runs_told _ (told g.S.EventSink.delivers g.S.EventSink.faults) g.K.Interceptor.intercepts g.C.Clock.moments (heard_of g.N.Listener.told g.N.Listener.faults g.N.Listener.waits)
    (talk_of g.I.Source.left g.I.Source.faults g.O.Sink.took g.O.Sink.handed g.O.Sink.faults)
    g.A.Channel.stands g.A.Channel.tells g.A.Channel.moment g.A.Durable.is_laid g.A.Durable.is_pruned g.B.Channel.stands g.B.Channel.tells
    c.keepers_stay_told.ensures c.listeners_stay_told.ensures c.lines_stay_told.ensures
