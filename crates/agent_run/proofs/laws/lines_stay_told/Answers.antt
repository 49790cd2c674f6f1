use Rattle.std.proofs.Common.{All}
use Rattle.shared_channel.specs.Passes.{Known}
use Rattle.line_worker.specs.Workers.{talk_of}
use Rattle.line_worker.specs.declared.worker.LineWorker.{LineWorker}
use Rattle.two_channels.specs.Ports.{pass_of}
use Rattle.run_tracks.specs.Told.{IsNew}
use Rattle.run_working.specs.Ends.{IsLineEnded}
use Rattle.run_working.specs.Histories.{IsLineTold}
use Rattle.run_working.specs.Opened.{IsLineOpened}
use Rattle.run_working.specs.Wholes.{AreSilentAt}
use Rattle.run_working.proofs.Behind.{LineRuns}
use Rattle.run_working.proofs.Lasting.{all_both, line_stays}
use Rattle.run_working.proofs.Zipping.{ran_zips, zips_four}
use Rattle.agent_run.proofs.laws.lines_stay_told.Goals as goal

pub returns : goal.returns
returns g c = λ shares homes last jobs returned new run on silent.
    let Means = g.K.Interceptor.intercepts in
    let moments = g.C.Clock.moments in
    let talk = talk_of g.I.Source.left g.I.Source.faults g.O.Sink.took g.O.Sink.handed g.O.Sink.faults in
    let J = LineWorker Known g.row.I.Denot g.row.O.Denot g.row.C.Denot g.row.K.Denot in
    let New = λ (job : J). All IsNew job.ports.items in
    let Silent = λ (job : J). AreSilentAt homes last job.channels.items job.ports.items in
    let Ran = LineRuns {R = g.row.R.Denot} g.A.Channel.stands g.B.Channel.stands Means moments talk in
    zips_four (λ (job : J). New job × Silent job) (IsLineOpened shares) Ran (IsLineEnded pass_of homes) (IsLineTold Means moments talk shares last)
    (λ job v w back both opened ran gone. line_stays g.A.Channel.stands g.B.Channel.stands Means moments talk shares homes last on job v w back both.0 both.1 opened ran gone)
    jobs.lines.items run.old.lines.items run.new.lines.items returned.lines.items
    (all_both New Silent jobs.lines.items new.lines silent) run.opened.lines (ran_zips Ran run.old.lines.items run.new.lines.items run.once.lines) run.ended.lines
