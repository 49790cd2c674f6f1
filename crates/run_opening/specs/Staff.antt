-- The workers of a run, and what they were made of.
use Rattle.std.specs.Prelude.{◌≡◌, ◌≢◌, ◌≤◌, ℕ, List, [], ◌∷◌, length, None}
use Rattle.std.specs.Vec.{vec_capacity}
use Rattle.shared_channel.specs.Passes.{Known}
use Rattle.grouped_sinks.specs.declared.row.SinkRow.{SinkRow}
use Rattle.sink_worker.specs.declared.worker.SinkWorker.{SinkWorker}
use Rattle.keep_worker.specs.declared.worker.KeepWorker.{KeepWorker}
use Rattle.source_worker.specs.declared.ends.SessionRules.TheVariants as rule
use Rattle.source_worker.specs.declared.worker.ListenWorker.{ListenWorker}
use Rattle.line_worker.specs.declared.worker.LineWorker.{LineWorker}
use Rattle.run_staff.specs.declared.workers.LineEnded.{LineEnded}
use Rattle.run_opening.specs.declared.seats.KeepSeat.{KeepSeat}
use Rattle.run_opening.specs.declared.seats.Seat.{Seat}

-- the channels that a worker uses, and its passes of them, in the same order
abbrev pub keep_channels : {C : Type 0} → KeepWorker Known C → List ℕ
keep_channels job = job.channel ∷ []

abbrev pub keep_ports : {C : Type 0} → KeepWorker Known C → List Known
keep_ports job = job.port ∷ []

abbrev pub sink_channels : {S C : Type 0} → SinkWorker Known S C → List ℕ
sink_channels job = job.channel ∷ []

abbrev pub sink_ports : {S C : Type 0} → SinkWorker Known S C → List Known
sink_ports job = job.port ∷ []

abbrev pub listen_channels : {N C K : Type 0} → ListenWorker Known N C K → List ℕ
listen_channels job = job.channels.items

abbrev pub listen_ports : {N C K : Type 0} → ListenWorker Known N C K → List Known
listen_ports job = job.ports.items

abbrev pub line_channels : {I O C K : Type 0} → LineWorker Known I O C K → List ℕ
line_channels job = job.channels.items

abbrev pub line_ports : {I O C K : Type 0} → LineWorker Known I O C K → List Known
line_ports job = job.ports.items

-- its input and output, and what ended its session
abbrev pub own_talk : {I O C K : Type 0} → LineWorker Known I O C K → LineEnded I O
own_talk job = record { input = job.input; output = job.output; end = job.end }

abbrev pub seat_channels : {K C : Type 0} → Seat K C → List ℕ
seat_channels seat = seat.draft.channels.items

-- there is room for its passes, and none is there yet
pub record IsRoomy {K C : Type 0} (seat : Seat K C) : Type 0 where
  pub none : seat.ports.items ≡ []
  pub room : length seat.draft.channels.items ≤ vec_capacity seat.ports

-- the worker of a channel by its plan
pub record IsKeepOf {C : Type 0} (seat : KeepSeat C) (job : KeepWorker Known C) : Type 0 where
  pub channel : job.channel ≡ seat.channel
  pub interval : job.interval ≡ seat.interval

-- the worker of a sink by its plan
pub record IsSinkOf {S C : Type 0} (plan : SinkRow) (job : SinkWorker Known S C) : Type 0 where
  pub channel : job.channel ≡ plan.channel
  pub batch : job.batch ≡ plan.batch

-- the worker of a listener by its source
pub record IsListenOf {N C K : Type 0} (seat : Seat K C) (job : ListenWorker Known N C K) : Type 0 where
  pub channels : job.channels ≡ seat.draft.channels
  pub many : length job.ports.items ≡ length job.channels.items
  pub plan : job.plan ≡ seat.draft.plan
  pub selector : job.selector ≡ seat.draft.selector
  pub host : job.host ≡ seat.draft.host
  pub rules : job.rules ≡ seat.draft.rules

-- a worker of lines by its source
pub record IsLineOf {I O C K : Type 0} (seat : Seat K C) (job : LineWorker Known I O C K) : Type 0 where
  pub channels : job.channels ≡ seat.draft.channels
  pub many : length job.ports.items ≡ length job.channels.items
  pub plan : job.plan ≡ seat.draft.plan
  pub selector : job.selector ≡ seat.draft.selector
  pub host : job.host ≡ seat.draft.host
  pub rules : seat.draft.rules ≡ rule.Lines job.rules
  pub timed : job.clock ≢ None
