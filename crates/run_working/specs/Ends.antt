-- Workers whose passes came home.
use Rattle.std.specs.Prelude.{◌≡◌, List}
use Rattle.shared_channel.specs.Passes.{Known}
use Rattle.sink_worker.specs.declared.worker.SinkWorker.{SinkWorker}
use Rattle.keep_worker.specs.declared.worker.KeepWorker.{KeepWorker}
use Rattle.source_worker.specs.declared.worker.ListenWorker.{ListenWorker}
use Rattle.run_tracks.specs.Homes.{TookAt}
use Rattle.run_tracks.specs.Places.{TookEach}
use Rattle.line_worker.specs.declared.worker.LineWorker.{LineWorker}
use Rattle.run_settling.specs.declared.at_home.AtHome.{AtHome}
use Rattle.run_staff.specs.declared.workers.LineEnded.{LineEnded}

-- its pass was taken in at home
abbrev pub IsKeepEnded : {F C : Type 0} → (F → Known) → List Known → KeepWorker F C → Type 0
IsKeepEnded pass homes w = TookAt homes w.channel (pass w.port)

-- It is the same sink, whose pass was taken in at home.
pub record IsSinkEnded {F S C : Type 0} (pass : F → Known) (homes : List Known) (w : SinkWorker F S C) (ended : SinkWorker AtHome S C) : Type 0 where
  pub took : TookAt homes w.channel (pass w.port)
  pub number : ended.port.number ≡ (pass w.port).number
  pub channel : ended.channel ≡ w.channel
  pub sink : ended.sink ≡ w.sink
  pub batch : ended.batch ≡ w.batch
  pub clock : ended.clock ≡ w.clock

-- It is the listener of this worker, whose passes were taken in at home.
pub record IsListenEnded {F N C K : Type 0} (pass : F → Known) (homes : List Known) (w : ListenWorker F N C K) (listener : N) : Type 0 where
  pub took : TookEach homes pass w.channels.items w.ports.items
  pub same : listener ≡ w.listener

-- It has what this worker had, whose passes were taken in at home.
pub record IsLineEnded {F I O C K : Type 0} (pass : F → Known) (homes : List Known) (w : LineWorker F I O C K) (ended : LineEnded I O) : Type 0 where
  pub took : TookEach homes pass w.channels.items w.ports.items
  pub input : ended.input ≡ w.input
  pub output : ended.output ≡ w.output
  pub end : ended.end ≡ w.end
