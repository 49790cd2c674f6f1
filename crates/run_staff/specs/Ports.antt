-- Workers whose passes are of their channels.
use Rattle.std.specs.Prelude.{List}
use Rattle.atomic_table.specs.Seated.{TableId}
use Rattle.shared_channel.specs.Passes.{Known}
use Rattle.sink_worker.specs.declared.worker.SinkWorker.{SinkWorker}
use Rattle.keep_worker.specs.declared.worker.KeepWorker.{KeepWorker}
use Rattle.source_worker.specs.declared.worker.ListenWorker.{ListenWorker}
use Rattle.run_tracks.specs.Homes.{IsAt}
use Rattle.run_tracks.specs.Places.{AreAt}
use Rattle.line_worker.specs.declared.worker.LineWorker.{LineWorker}

-- the pass of a port is of the channel that the worker keeps
abbrev pub IsKeepPort : {Z F C : Type 0} → (Z → TableId) → List Z → (F → Known) → KeepWorker F C → Type 0
IsKeepPort table shares pass w = IsAt table shares w.channel (pass w.port)

-- the pass of a sink's port is of the sink's channel
abbrev pub IsSinkPort : {Z F S C : Type 0} → (Z → TableId) → List Z → (F → Known) → SinkWorker F S C → Type 0
IsSinkPort table shares pass w = IsAt table shares w.channel (pass w.port)

-- the passes of a listener's ports are of its channels, in order
abbrev pub AreListenPorts : {Z F N C K : Type 0} → (Z → TableId) → List Z → (F → Known) → ListenWorker F N C K → Type 0
AreListenPorts table shares pass w = AreAt table shares pass w.channels.items w.ports.items

-- the passes of the ports of a worker of lines are of its channels, in order
abbrev pub AreLinePorts : {Z F I O C K : Type 0} → (Z → TableId) → List Z → (F → Known) → LineWorker F I O C K → Type 0
AreLinePorts table shares pass w = AreAt table shares pass w.channels.items w.ports.items
