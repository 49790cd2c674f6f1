use Rattle.crew.specs.Drains.{DrainRan}
use Rattle.line_worker.specs.Workers.{talk_of}
use Rattle.sink_worker.specs.Rounds.{told}
use Rattle.source_worker.specs.Workers.{heard_of}
use Rattle.two_channels.specs.declared.port.EitherPort.{EitherPort}
use Rattle.run_working.specs.Runs.{Runs, runs}
use Rattle.run_working.proofs.Behind.{KeepRuns, LineRuns, ListenRuns, SinkRuns}
use Rattle.agent_run.proofs.Joining.{are_back, as_many_sinks, same_ends}
use Rattle.agent_run.proofs.joined.run_jobs.Goals as goal

pub returns-clause-many : goal.returns-clause-many
returns-clause-many g c =
    let heard = heard_of g.N.Listener.told g.N.Listener.faults g.N.Listener.waits in
    let talk = talk_of g.I.Source.left g.I.Source.faults g.O.Sink.took g.O.Sink.handed g.O.Sink.faults in
    let does : Runs (EitherPort g.row.R.Denot g.row.A.Denot g.row.B.Denot) g.row.S.Denot g.row.N.Denot g.row.I.Denot g.row.O.Denot g.row.C.Denot g.row.K.Denot =
    runs (KeepRuns g.A.Channel.stands g.B.Channel.stands g.A.Channel.tells g.A.Durable.is_laid g.A.Durable.is_pruned)
    (SinkRuns g.A.Channel.stands g.B.Channel.stands g.S.EventSink.delivers g.S.EventSink.faults g.C.Clock.moments)
    (ListenRuns g.A.Channel.stands g.B.Channel.stands g.K.Interceptor.intercepts g.C.Clock.moments heard g.N.Listener.endpoint)
    (DrainRan g.I.Source.left g.I.Source.faults)
    (LineRuns g.A.Channel.stands g.B.Channel.stands g.K.Interceptor.intercepts g.C.Clock.moments talk) in
    let homes = c.run_workers.new.homes in
    let back = c.run_workers.new.returned in
    let sink = told g.S.EventSink.delivers g.S.EventSink.faults in
    as_many_sinks does sink g.K.Interceptor.intercepts g.C.Clock.moments heard talk c.args.shares.now homes c.args.jobs back
    (are_back does sink g.K.Interceptor.intercepts g.C.Clock.moments heard talk c.args.shares.now homes c.args.jobs back c.run_workers.result
    c.run_workers.ensures.ran c.run_workers.ensures.sinks c.run_workers.ensures.listeners c.run_workers.ensures.lines c.run_workers.ensures.idle)

pub returns-clause-back : goal.returns-clause-back
returns-clause-back g c =
    let heard = heard_of g.N.Listener.told g.N.Listener.faults g.N.Listener.waits in
    let talk = talk_of g.I.Source.left g.I.Source.faults g.O.Sink.took g.O.Sink.handed g.O.Sink.faults in
    let does : Runs (EitherPort g.row.R.Denot g.row.A.Denot g.row.B.Denot) g.row.S.Denot g.row.N.Denot g.row.I.Denot g.row.O.Denot g.row.C.Denot g.row.K.Denot =
    runs (KeepRuns g.A.Channel.stands g.B.Channel.stands g.A.Channel.tells g.A.Durable.is_laid g.A.Durable.is_pruned)
    (SinkRuns g.A.Channel.stands g.B.Channel.stands g.S.EventSink.delivers g.S.EventSink.faults g.C.Clock.moments)
    (ListenRuns g.A.Channel.stands g.B.Channel.stands g.K.Interceptor.intercepts g.C.Clock.moments heard g.N.Listener.endpoint)
    (DrainRan g.I.Source.left g.I.Source.faults)
    (LineRuns g.A.Channel.stands g.B.Channel.stands g.K.Interceptor.intercepts g.C.Clock.moments talk) in
    are_back does (told g.S.EventSink.delivers g.S.EventSink.faults) g.K.Interceptor.intercepts g.C.Clock.moments heard talk c.args.shares.now c.run_workers.new.homes c.args.jobs c.run_workers.new.returned c.run_workers.result
    c.run_workers.ensures.ran c.run_workers.ensures.sinks c.run_workers.ensures.listeners c.run_workers.ensures.lines c.run_workers.ensures.idle

pub returns-clause-ends : goal.returns-clause-ends
returns-clause-ends g c =
    let heard = heard_of g.N.Listener.told g.N.Listener.faults g.N.Listener.waits in
    let talk = talk_of g.I.Source.left g.I.Source.faults g.O.Sink.took g.O.Sink.handed g.O.Sink.faults in
    let Keeps = KeepRuns {R = g.row.R.Denot} g.A.Channel.stands g.B.Channel.stands g.A.Channel.tells g.A.Durable.is_laid g.A.Durable.is_pruned in
    let Sinks = SinkRuns {R = g.row.R.Denot} g.A.Channel.stands g.B.Channel.stands g.S.EventSink.delivers g.S.EventSink.faults g.C.Clock.moments in
    let Drains = DrainRan g.I.Source.left g.I.Source.faults in
    let Lines = LineRuns {R = g.row.R.Denot} g.A.Channel.stands g.B.Channel.stands g.K.Interceptor.intercepts g.C.Clock.moments talk in
    let does : Runs (EitherPort g.row.R.Denot g.row.A.Denot g.row.B.Denot) g.row.S.Denot g.row.N.Denot g.row.I.Denot g.row.O.Denot g.row.C.Denot g.row.K.Denot =
    runs Keeps Sinks (ListenRuns g.A.Channel.stands g.B.Channel.stands g.K.Interceptor.intercepts g.C.Clock.moments heard g.N.Listener.endpoint) Drains Lines in
    let sink = told g.S.EventSink.delivers g.S.EventSink.faults in
    same_ends g.A.Channel.stands g.B.Channel.stands sink g.K.Interceptor.intercepts g.C.Clock.moments heard talk g.N.Listener.endpoint Keeps Sinks Drains Lines
    c.args.shares.now c.run_workers.new.homes c.args.jobs c.run_workers.new.returned
    (are_back does sink g.K.Interceptor.intercepts g.C.Clock.moments heard talk c.args.shares.now c.run_workers.new.homes c.args.jobs c.run_workers.new.returned c.run_workers.result
    c.run_workers.ensures.ran c.run_workers.ensures.sinks c.run_workers.ensures.listeners c.run_workers.ensures.lines c.run_workers.ensures.idle)
