use Rattle.std.proofs.Common.{All}
use Rattle.shared_channel.specs.Passes.{Known}
use Rattle.source_worker.specs.Workers.{heard_of}
use Rattle.source_worker.specs.declared.worker.ListenWorker.{ListenWorker}
use Rattle.two_channels.specs.Ports.{pass_of}
use Rattle.run_tracks.specs.Told.{IsNew}
use Rattle.run_working.specs.Ends.{IsListenEnded}
use Rattle.run_working.specs.Histories.{IsListenTold}
use Rattle.run_working.specs.Opened.{IsListenOpened}
use Rattle.run_working.specs.Wholes.{AreSilentAt}
use Rattle.run_working.proofs.Behind.{ListenRuns}
use Rattle.run_working.proofs.Lasting.{all_both, listen_stays}
use Rattle.run_working.proofs.Zipping.{ran_zips, zips_four}
use Rattle.agent_run.proofs.laws.listeners_stay_told.Goals as goal

pub returns : goal.returns
returns g c = λ shares homes last jobs returned new run on silent.
    let Means = g.K.Interceptor.intercepts in
    let moments = g.C.Clock.moments in
    let heard = heard_of g.N.Listener.told g.N.Listener.faults g.N.Listener.waits in
    let J = ListenWorker Known g.row.N.Denot g.row.C.Denot g.row.K.Denot in
    let New = λ (job : J). All IsNew job.ports.items in
    let Silent = λ (job : J). AreSilentAt homes last job.channels.items job.ports.items in
    let Ran = ListenRuns {R = g.row.R.Denot} g.A.Channel.stands g.B.Channel.stands Means moments heard g.N.Listener.endpoint in
    zips_four (λ (job : J). New job × Silent job) (IsListenOpened shares) Ran (IsListenEnded pass_of homes) (IsListenTold Means moments heard shares last)
    (λ job v w listener both opened ran gone. listen_stays g.A.Channel.stands g.B.Channel.stands Means moments heard g.N.Listener.endpoint shares homes last on job v w listener both.0 both.1 opened ran gone)
    jobs.listeners.items run.old.listeners.items run.new.listeners.items returned.listeners.items
    (all_both New Silent jobs.listeners.items new.listeners silent) run.opened.listeners (ran_zips Ran run.old.listeners.items run.new.listeners.items run.once.listeners) run.ended.listeners
