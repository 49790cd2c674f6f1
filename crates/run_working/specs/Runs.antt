-- The workers of a run in it and after it.
use Rattle.std.specs.Prelude.{◌≡◌, List, All}
use Rattle.shared_channel.specs.Passes.{Known}
use Rattle.two_channels.specs.declared.port.EitherPort.{EitherPort}
use Rattle.two_channels.specs.declared.shared.EitherShared.{EitherShared}
use Rattle.crew.specs.Rows.{EachRan}
use Rattle.crew.specs.declared.draining.DrainWorker.{DrainWorker}
use Rattle.keep_worker.specs.declared.worker.KeepWorker.{KeepWorker}
use Rattle.sink_worker.specs.declared.worker.SinkWorker.{SinkWorker}
use Rattle.source_worker.specs.declared.worker.ListenWorker.{ListenWorker}
use Rattle.line_worker.specs.declared.worker.LineWorker.{LineWorker}
use Rattle.two_channels.specs.Ports.{pass_of}
use Rattle.run_tracks.specs.Places.{Zips}
use Rattle.run_working.specs.Ends.{IsKeepEnded, IsLineEnded, IsListenEnded, IsSinkEnded}
use Rattle.run_working.specs.Opened.{IsKeepOpened, IsLineOpened, IsListenOpened, IsSinkOpened}
use Rattle.run_settling.specs.Draining.{HasRoom}
use Rattle.run_working.specs.declared.rooms.Rooms.{Rooms}
use Rattle.run_staff.specs.declared.workers.Returned.{Returned}
use Rattle.run_staff.specs.declared.workers.Workers.{Workers}

-- what came back of each kind, in order
pub record AreEnded {F S N I O C K : Type 0} (pass : F → Known) (homes : List Known) (w : Workers F S N I O C K) (r : Returned S N I O C) : Type 0 where
  pub keepers : All (IsKeepEnded pass homes) w.keepers.items
  pub sinks : Zips (IsSinkEnded pass homes) w.sinks.items r.sinks.items
  pub listeners : Zips (IsListenEnded pass homes) w.listeners.items r.listeners.items
  pub drains : r.drains ≡ w.drains
  pub lines : Zips (IsLineEnded pass homes) w.lines.items r.lines.items

-- the workers of each kind have got their ports
pub record AreOpened {R A B S N I O C K : Type 0} (shares : List (EitherShared A B)) (jobs : Workers Known S N I O C K) (w : Workers (EitherPort R A B) S N I O C K) : Type 0 where
  pub keepers : Zips (IsKeepOpened shares) jobs.keepers.items w.keepers.items
  pub sinks : Zips (IsSinkOpened shares) jobs.sinks.items w.sinks.items
  pub listeners : Zips (IsListenOpened shares) jobs.listeners.items w.listeners.items
  pub drains : w.drains ≡ jobs.drains
  pub lines : Zips (IsLineOpened shares) jobs.lines.items w.lines.items

-- there is room for the workers with ports, and for the ports of each
pub record HaveRooms {R A B S N I O C K : Type 0} (jobs : Workers Known S N I O C K) (rooms : Rooms R A B S N I O C K) : Type 0 where
  pub keepers : HasRoom jobs.keepers.items rooms.keepers
  pub sinks : HasRoom jobs.sinks.items rooms.sinks
  pub listeners : HasRoom jobs.listeners.items rooms.listeners
  pub listener_ports : Zips (λ job room. HasRoom job.ports.items room) jobs.listeners.items rooms.listener_ports.items
  pub lines : HasRoom jobs.lines.items rooms.lines
  pub line_ports : Zips (λ job room. HasRoom job.ports.items room) jobs.lines.items rooms.line_ports.items

-- what each kind of worker does in a run
pub record Runs (F S N I O C K : Type 0) : Type 1 where
  pub keepers : KeepWorker F C → KeepWorker F C → Type 0
  pub sinks : SinkWorker F S C → SinkWorker F S C → Type 0
  pub listeners : ListenWorker F N C K → ListenWorker F N C K → Type 0
  pub drains : DrainWorker I → DrainWorker I → Type 0
  pub lines : LineWorker F I O C K → LineWorker F I O C K → Type 0

abbrev pub runs : {F S N I O C K : Type 0} → (KeepWorker F C → KeepWorker F C → Type 0) → (SinkWorker F S C → SinkWorker F S C → Type 0) → (ListenWorker F N C K → ListenWorker F N C K → Type 0)
    → (DrainWorker I → DrainWorker I → Type 0) → (LineWorker F I O C K → LineWorker F I O C K → Type 0) → Runs F S N I O C K
runs keepers sinks listeners drains lines = record { keepers = keepers; sinks = sinks; listeners = listeners; drains = drains; lines = lines }

-- each worker ran once
pub record EachOnce {F S N I O C K : Type 0} (runs : Runs F S N I O C K) (old new : Workers F S N I O C K) : Type 0 where
  pub keepers : EachRan runs.keepers old.keepers.items new.keepers.items
  pub sinks : EachRan runs.sinks old.sinks.items new.sinks.items
  pub listeners : EachRan runs.listeners old.listeners.items new.listeners.items
  pub drains : EachRan runs.drains old.drains.items new.drains.items
  pub lines : EachRan runs.lines old.lines.items new.lines.items

-- The workers got their ports, each ran once, and their passes were taken in at home.
pub record HaveRun {R A B S N I O C K : Type 0} (runs : Runs (EitherPort R A B) S N I O C K) (shares : List (EitherShared A B)) (homes : List Known)
    (jobs : Workers Known S N I O C K) (returned : Returned S N I O C) : Type 0 where
  pub old : Workers (EitherPort R A B) S N I O C K
  pub new : Workers (EitherPort R A B) S N I O C K
  pub opened : AreOpened shares jobs old
  pub once : EachOnce runs old new
  pub ended : AreEnded pass_of homes new returned
