-- Workers that got the ports of their channels.
use Rattle.std.specs.Prelude.{◌≡◌, List, slice_index_or}
use Rattle.shared_channel.specs.Passes.{Known}
use Rattle.sink_worker.specs.declared.worker.SinkWorker.{SinkWorker}
use Rattle.keep_worker.specs.declared.worker.KeepWorker.{KeepWorker}
use Rattle.source_worker.specs.declared.worker.ListenWorker.{ListenWorker}
use Rattle.line_worker.specs.declared.worker.LineWorker.{LineWorker}
use Rattle.two_channels.specs.Ports.{pass_of}
use Rattle.two_channels.specs.Shares.{IsPortOf}
use Rattle.two_channels.specs.declared.port.EitherPort.{EitherPort}
use Rattle.two_channels.specs.declared.shared.EitherShared.{EitherShared}
use Rattle.run_tracks.specs.Places.{AreKinds, Zips}

-- it is the same worker of a channel, with a port of it that has its pass
pub record IsKeepOpened {R A B C : Type 0} (shares : List (EitherShared A B)) (job : KeepWorker Known C) (w : KeepWorker (EitherPort R A B) C) : Type 0 where
  pub pass : pass_of w.port ≡ job.port
  pub kind : (d : EitherShared A B) → IsPortOf (slice_index_or shares job.channel d) w.port
  pub channel : w.channel ≡ job.channel
  pub interval : w.interval ≡ job.interval
  pub clock : w.clock ≡ job.clock

-- it is the same sink, with a port of its channel that has its pass
pub record IsSinkOpened {R A B S C : Type 0} (shares : List (EitherShared A B)) (job : SinkWorker Known S C) (w : SinkWorker (EitherPort R A B) S C) : Type 0 where
  pub pass : pass_of w.port ≡ job.port
  pub kind : (d : EitherShared A B) → IsPortOf (slice_index_or shares job.channel d) w.port
  pub channel : w.channel ≡ job.channel
  pub sink : w.sink ≡ job.sink
  pub batch : w.batch ≡ job.batch
  pub clock : w.clock ≡ job.clock

-- it is the same listener, with ports of its channels that have its passes, in order
pub record IsListenOpened {R A B N C K : Type 0} (shares : List (EitherShared A B)) (job : ListenWorker Known N C K) (w : ListenWorker (EitherPort R A B) N C K) : Type 0 where
  pub passes : Zips (λ pass port. pass_of port ≡ pass) job.ports.items w.ports.items
  pub kinds : AreKinds shares job.channels.items w.ports.items
  pub channels : w.channels ≡ job.channels
  pub plan : w.plan ≡ job.plan
  pub selector : w.selector ≡ job.selector
  pub host : w.host ≡ job.host
  pub rules : w.rules ≡ job.rules
  pub listener : w.listener ≡ job.listener
  pub clock : w.clock ≡ job.clock

-- it is the same worker, with ports of its channels that have its passes, in order
pub record IsLineOpened {R A B I O C K : Type 0} (shares : List (EitherShared A B)) (job : LineWorker Known I O C K) (w : LineWorker (EitherPort R A B) I O C K) : Type 0 where
  pub passes : Zips (λ pass port. pass_of port ≡ pass) job.ports.items w.ports.items
  pub kinds : AreKinds shares job.channels.items w.ports.items
  pub channels : w.channels ≡ job.channels
  pub plan : w.plan ≡ job.plan
  pub selector : w.selector ≡ job.selector
  pub host : w.host ≡ job.host
  pub rules : w.rules ≡ job.rules
  pub input : w.input ≡ job.input
  pub output : w.output ≡ job.output
  pub clock : w.clock ≡ job.clock
  pub end : w.end ≡ job.end
