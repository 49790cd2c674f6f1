use Rattle.std.proofs.Common.{All, get_or}
use Rattle.crew.specs.Drains.{DrainRan}
use Rattle.source_worker.specs.Workers.{CanListen, heard_of}
use Rattle.line_worker.specs.Workers.{CanServe, talk_of}
use Rattle.keep_worker.specs.Workers.{CanKeep}
use Rattle.keep_worker.specs.declared.worker.KeepWorker.{KeepWorker}
use Rattle.two_channels.specs.Ports.{IsOnDisk, LaterPort, pass_of}
use Rattle.two_channels.specs.declared.port.EitherPort.{EitherPort}
use Rattle.run_staff.specs.declared.workers.Workers.{Workers}
use Rattle.two_channels.specs.Shares.{IsDisk, table_of}
use Rattle.two_channels.specs.declared.shared.EitherShared.{EitherShared}
use Rattle.run_tracks.proofs.Telling.{number_home}
use Rattle.shared_channel.specs.Passes.{Known}
use Rattle.sink_worker.specs.Rounds.{told}
use Rattle.sink_worker.specs.declared.worker.SinkWorker.{SinkWorker}
use Rattle.source_worker.specs.declared.worker.ListenWorker.{ListenWorker}
use Rattle.line_worker.specs.declared.worker.LineWorker.{LineWorker}
use Rattle.run_tracks.specs.Told.{IsNew}
use Rattle.run_settling.specs.Draining.{IsSinkHome}
use Rattle.run_settling.specs.declared.at_home.AtHome.{AtHome}
use Rattle.run_staff.specs.Ports.{IsKeepPort}
use Rattle.run_working.specs.Ends.{IsLineEnded, IsListenEnded, IsSinkEnded}
use Rattle.run_working.specs.Histories.{IsLineTold, IsListenTold, IsSinkTold}
use Rattle.run_working.specs.Opened.{IsKeepOpened, IsLineOpened, IsListenOpened, IsSinkOpened}
use Rattle.run_staff.specs.Jobs.{owners_of}
use Rattle.run_working.proofs.Behind.{LineRuns, ListenRuns, SinkRuns, same_behind}
use Rattle.run_working.proofs.Telling.{line_told, listen_told, sink_home, sink_told}
use Rattle.run_working.proofs.Fitting.{keep_fits, line_fits, listen_fits}
use Rattle.run_working.proofs.Lasting.{all_both}
use Rattle.run_working.proofs.Home.{numbers_home, room_kept, workers_at}
use Rattle.run_working.proofs.Zipping.{ran_zips, zips_all, zips_four}
use Rattle.run_working.proofs.running.run_in.Goals as goal

pub run_lists-requires-clause-kept : goal.run_lists-requires-clause-kept
run_lists-requires-clause-kept g c κs within =
    let E = EitherShared g.row.A.Denot g.row.B.Denot in
    let J = KeepWorker Known g.row.C.Denot in
    let shares = c.args.shares.now in
    let At = λ (job : J). IsKeepPort table_of shares (λ (p : Known). p) job in
    let On = λ (job : J). (share : E) → IsDisk (get_or shares job.channel share) in
    let Can = λ (w : KeepWorker (EitherPort g.row.R.Denot g.row.A.Denot g.row.B.Denot) g.row.C.Denot). CanKeep IsOnDisk LaterPort w in
    zips_all (IsKeepOpened shares) (λ (job : J). At job × On job) Can (λ job v both opened. keep_fits shares job v both.0 both.1 opened)
    c.args.jobs.keepers.items c.open_workers-keepers.result.keepers.items (all_both At On c.args.jobs.keepers.items c.requires.jobs.keepers c.requires.disks) c.open_workers-keepers.ensures.keepers

pub run_lists-requires-clause-second : goal.run_lists-requires-clause-second
run_lists-requires-clause-second g c κs within =
    let shares = c.args.shares.now in
    zips_all (IsListenOpened shares) CanListen CanListen (λ job v can opened. listen_fits shares job v can opened) c.args.jobs.listeners.items c.open_workers-keepers.result.listeners.items c.requires.fit.listeners c.open_workers-keepers.ensures.listeners

pub run_lists-requires-clause-last : goal.run_lists-requires-clause-last
run_lists-requires-clause-last g c κs within =
    let shares = c.args.shares.now in
    zips_all (IsLineOpened shares) CanServe CanServe (λ job v can opened. line_fits shares job v can opened) c.args.jobs.lines.items c.open_workers-keepers.result.lines.items c.requires.fit.lines c.open_workers-keepers.ensures.lines

pub end_workers-requires-clause-workers : goal.end_workers-requires-clause-workers
end_workers-requires-clause-workers g c =
    let workers : Workers (EitherPort g.row.R.Denot g.row.A.Denot g.row.B.Denot) g.row.S.Denot g.row.N.Denot g.row.I.Denot g.row.O.Denot g.row.C.Denot g.row.K.Denot = record { keepers = c.run_lists.new.kept; sinks = c.run_lists.new.first; listeners = c.run_lists.new.second; drains = c.run_lists.new.third; lines = c.run_lists.new.last } in
    let same = same_behind g.A.Channel.stands g.B.Channel.stands g.S.EventSink.delivers g.S.EventSink.faults g.K.Interceptor.intercepts g.C.Clock.moments
    (heard_of g.N.Listener.told g.N.Listener.faults g.N.Listener.waits) g.N.Listener.endpoint (DrainRan g.I.Source.left g.I.Source.faults)
    (talk_of g.I.Source.left g.I.Source.faults g.O.Sink.took g.O.Sink.handed g.O.Sink.faults) g.A.Channel.tells g.A.Durable.is_laid g.A.Durable.is_pruned
    c.args.shares.now c.args.jobs c.open_workers-keepers.result workers c.open_workers-keepers.ensures (record { keepers = c.run_lists.ensures.kept; sinks = c.run_lists.ensures.first; listeners = c.run_lists.ensures.second; drains = c.run_lists.ensures.third; lines = c.run_lists.ensures.last }) in
    workers_at pass_of table_of c.args.shares.now c.args.jobs workers c.requires.jobs same

pub end_workers-requires-clause-room : goal.end_workers-requires-clause-room
end_workers-requires-clause-room g c =
    let workers : Workers (EitherPort g.row.R.Denot g.row.A.Denot g.row.B.Denot) g.row.S.Denot g.row.N.Denot g.row.I.Denot g.row.O.Denot g.row.C.Denot g.row.K.Denot = record { keepers = c.run_lists.new.kept; sinks = c.run_lists.new.first; listeners = c.run_lists.new.second; drains = c.run_lists.new.third; lines = c.run_lists.new.last } in
    let same = same_behind g.A.Channel.stands g.B.Channel.stands g.S.EventSink.delivers g.S.EventSink.faults g.K.Interceptor.intercepts g.C.Clock.moments
    (heard_of g.N.Listener.told g.N.Listener.faults g.N.Listener.waits) g.N.Listener.endpoint (DrainRan g.I.Source.left g.I.Source.faults)
    (talk_of g.I.Source.left g.I.Source.faults g.O.Sink.took g.O.Sink.handed g.O.Sink.faults) g.A.Channel.tells g.A.Durable.is_laid g.A.Durable.is_pruned
    c.args.shares.now c.args.jobs c.open_workers-keepers.result workers c.open_workers-keepers.ensures (record { keepers = c.run_lists.ensures.kept; sinks = c.run_lists.ensures.first; listeners = c.run_lists.ensures.second; drains = c.run_lists.ensures.third; lines = c.run_lists.ensures.last }) in
    room_kept pass_of c.args.jobs workers c.args.returned.now same c.requires.room

pub returns-clause-all : goal.returns-clause-all
returns-clause-all g c dealt =
    let workers : Workers (EitherPort g.row.R.Denot g.row.A.Denot g.row.B.Denot) g.row.S.Denot g.row.N.Denot g.row.I.Denot g.row.O.Denot g.row.C.Denot g.row.K.Denot = record { keepers = c.run_lists.new.kept; sinks = c.run_lists.new.first; listeners = c.run_lists.new.second; drains = c.run_lists.new.third; lines = c.run_lists.new.last } in
    let same = same_behind g.A.Channel.stands g.B.Channel.stands g.S.EventSink.delivers g.S.EventSink.faults g.K.Interceptor.intercepts g.C.Clock.moments
    (heard_of g.N.Listener.told g.N.Listener.faults g.N.Listener.waits) g.N.Listener.endpoint (DrainRan g.I.Source.left g.I.Source.faults)
    (talk_of g.I.Source.left g.I.Source.faults g.O.Sink.took g.O.Sink.handed g.O.Sink.faults) g.A.Channel.tells g.A.Durable.is_laid g.A.Durable.is_pruned
    c.args.shares.now c.args.jobs c.open_workers-keepers.result workers c.open_workers-keepers.ensures (record { keepers = c.run_lists.ensures.kept; sinks = c.run_lists.ensures.first; listeners = c.run_lists.ensures.second; drains = c.run_lists.ensures.third; lines = c.run_lists.ensures.last }) in
    let homes = c.end_workers.new.homes in
    number_home c.args.homes.now homes (owners_of c.args.jobs) c.end_workers.ensures.kept
    (numbers_home pass_of homes c.args.jobs workers c.end_workers.new.returned c.requires.new same c.end_workers.ensures.ended) dealt

pub returns-clause-ran : goal.returns-clause-ran
returns-clause-ran g c =
    let workers : Workers (EitherPort g.row.R.Denot g.row.A.Denot g.row.B.Denot) g.row.S.Denot g.row.N.Denot g.row.I.Denot g.row.O.Denot g.row.C.Denot g.row.K.Denot = record { keepers = c.run_lists.new.kept; sinks = c.run_lists.new.first; listeners = c.run_lists.new.second; drains = c.run_lists.new.third; lines = c.run_lists.new.last } in
    record { old = c.open_workers-keepers.result; new = workers; opened = c.open_workers-keepers.ensures; once = record { keepers = c.run_lists.ensures.kept; sinks = c.run_lists.ensures.first; listeners = c.run_lists.ensures.second; drains = c.run_lists.ensures.third; lines = c.run_lists.ensures.last }; ended = c.end_workers.ensures.ended }

pub returns-clause-sinks : goal.returns-clause-sinks
returns-clause-sinks g c =
    let shares = c.args.shares.now in
    let homes = c.end_workers.new.homes in
    let Runs = SinkRuns {R = g.row.R.Denot} g.A.Channel.stands g.B.Channel.stands g.S.EventSink.delivers g.S.EventSink.faults g.C.Clock.moments in
    zips_four (λ (s : SinkWorker Known g.row.S.Denot g.row.C.Denot). IsNew s.port) (IsSinkOpened shares) Runs (IsSinkEnded pass_of homes)
    (IsSinkTold (told g.S.EventSink.delivers g.S.EventSink.faults) g.C.Clock.moments shares homes)
    (λ job v w back fresh opened ran gone. sink_told g.A.Channel.stands g.B.Channel.stands g.S.EventSink.delivers g.S.EventSink.faults g.C.Clock.moments shares homes job v w back fresh opened ran gone)
    c.args.jobs.sinks.items c.open_workers-keepers.result.sinks.items c.run_lists.new.first.items c.end_workers.new.returned.sinks.items
    c.requires.new.sinks c.open_workers-keepers.ensures.sinks (ran_zips Runs c.open_workers-keepers.result.sinks.items c.run_lists.new.first.items c.run_lists.ensures.first) c.end_workers.ensures.ended.sinks

pub returns-clause-home : goal.returns-clause-home
returns-clause-home g c =
    let shares = c.args.shares.now in
    let homes = c.end_workers.new.homes in
    let Runs = SinkRuns {R = g.row.R.Denot} g.A.Channel.stands g.B.Channel.stands g.S.EventSink.delivers g.S.EventSink.faults g.C.Clock.moments in
    let Fresh = λ (s : SinkWorker Known g.row.S.Denot g.row.C.Denot). IsNew s.port in
    let At = λ (s : SinkWorker Known g.row.S.Denot g.row.C.Denot) (back : SinkWorker AtHome g.row.S.Denot g.row.C.Denot). IsSinkHome homes back in
    zips_all At Fresh (IsSinkHome homes) (λ job back fresh is. is) c.args.jobs.sinks.items c.end_workers.new.returned.sinks.items c.requires.new.sinks
    (zips_four Fresh (IsSinkOpened shares) Runs (IsSinkEnded pass_of homes) At
    (λ job v w back fresh opened ran gone. sink_home g.A.Channel.stands g.B.Channel.stands g.S.EventSink.delivers g.S.EventSink.faults g.C.Clock.moments shares homes job v w back fresh opened ran gone)
    c.args.jobs.sinks.items c.open_workers-keepers.result.sinks.items c.run_lists.new.first.items c.end_workers.new.returned.sinks.items
    c.requires.new.sinks c.open_workers-keepers.ensures.sinks (ran_zips Runs c.open_workers-keepers.result.sinks.items c.run_lists.new.first.items c.run_lists.ensures.first) c.end_workers.ensures.ended.sinks)

pub returns-clause-listeners : goal.returns-clause-listeners
returns-clause-listeners g c =
    let shares = c.args.shares.now in
    let homes = c.end_workers.new.homes in
    let Means = g.K.Interceptor.intercepts in
    let heard = heard_of g.N.Listener.told g.N.Listener.faults g.N.Listener.waits in
    let Runs = ListenRuns {R = g.row.R.Denot} g.A.Channel.stands g.B.Channel.stands Means g.C.Clock.moments heard g.N.Listener.endpoint in
    zips_four (λ (l : ListenWorker Known g.row.N.Denot g.row.C.Denot g.row.K.Denot). All IsNew l.ports.items) (IsListenOpened shares) Runs (IsListenEnded pass_of homes)
    (IsListenTold Means g.C.Clock.moments heard shares homes)
    (λ job v w back fresh opened ran gone. listen_told g.A.Channel.stands g.B.Channel.stands Means g.C.Clock.moments heard g.N.Listener.endpoint shares homes job v w back fresh opened ran gone)
    c.args.jobs.listeners.items c.open_workers-keepers.result.listeners.items c.run_lists.new.second.items c.end_workers.new.returned.listeners.items
    c.requires.new.listeners c.open_workers-keepers.ensures.listeners (ran_zips Runs c.open_workers-keepers.result.listeners.items c.run_lists.new.second.items c.run_lists.ensures.second) c.end_workers.ensures.ended.listeners

pub returns-clause-lines : goal.returns-clause-lines
returns-clause-lines g c =
    let shares = c.args.shares.now in
    let homes = c.end_workers.new.homes in
    let Means = g.K.Interceptor.intercepts in
    let talk = talk_of g.I.Source.left g.I.Source.faults g.O.Sink.took g.O.Sink.handed g.O.Sink.faults in
    let Runs = LineRuns {R = g.row.R.Denot} g.A.Channel.stands g.B.Channel.stands Means g.C.Clock.moments talk in
    zips_four (λ (l : LineWorker Known g.row.I.Denot g.row.O.Denot g.row.C.Denot g.row.K.Denot). All IsNew l.ports.items) (IsLineOpened shares) Runs (IsLineEnded pass_of homes)
    (IsLineTold Means g.C.Clock.moments talk shares homes)
    (λ job v w back fresh opened ran gone. line_told g.A.Channel.stands g.B.Channel.stands Means g.C.Clock.moments talk shares homes job v w back fresh opened ran gone)
    c.args.jobs.lines.items c.open_workers-keepers.result.lines.items c.run_lists.new.last.items c.end_workers.new.returned.lines.items
    c.requires.new.lines c.open_workers-keepers.ensures.lines (ran_zips Runs c.open_workers-keepers.result.lines.items c.run_lists.new.last.items c.run_lists.ensures.last) c.end_workers.ensures.ended.lines
