-- The workers of a run, up to their join.
use Rattle.std.specs.Prelude.{◌≡◌, ◌⊎◌, ℕ, List, Option}
use Rattle.flume_host.specs.HostState.{HostState}
use Rattle.flume_host.specs.Listens.{Endpoint}
use Rattle.crew.specs.declared.draining.DrainWorker.{DrainWorker}
use Rattle.run_tracks.specs.Places.{Zips}
use Rattle.shared_channel.specs.Passes.{Known}
use Rattle.sink_worker.specs.Rounds.{Told}
use Rattle.source_put.specs.Chains.{Meaning}
use Rattle.source_worker.specs.Rounds.{Heard}
use Rattle.source_worker.specs.declared.worker.ListenWorker.{ListenWorker}
use Rattle.line_worker.specs.Workers.{Talk}
use Rattle.two_channels.specs.declared.port.EitherPort.{EitherPort}
use Rattle.two_channels.specs.declared.shared.EitherShared.{EitherShared}
use Rattle.run_working.specs.Histories.{IsLineTold, IsListenTold, IsSinkTold}
use Rattle.run_working.specs.Runs.{AreEnded, HaveRun, Runs}
use Rattle.run_opening.specs.Streams.{InTurn, ended_of}
use Rattle.run_staff.specs.declared.workers.LineEnded.{LineEnded}
use Rattle.agent_run.specs.declared.joined.Joined.{Joined}
use Rattle.run_staff.specs.declared.workers.Returned.{Returned}
use Rattle.run_staff.specs.declared.workers.Workers.{Workers}

-- nothing of the host has changed but its input and output, its listeners and its count of faults
abbrev pub IsButStreams : HostState → HostState → Type 0
IsButStreams old new = new ≡ record old { input = new.input; output = new.output; handed = new.handed; listeners = new.listeners; faults = new.faults }

-- What came back of the workers; the host took back what was drained, then the input and output of the lines, and then the listeners.
pub record IsJoined {S N I O C : Type 0} (Back : Returned S N I O C → Type 0) (Drained : DrainWorker I → HostState → HostState → Type 0)
    (Talked : LineEnded I O → HostState → HostState → Type 0) (Given : List N → HostState → HostState → Type 0) (joined : Joined S C) (old new : HostState) : Type 0 where
  pub returned : Returned S N I O C
  pub back : Back returned
  pub sinks : joined.sinks ≡ returned.sinks
  pub streams : joined.streams ≡ ended_of returned.drains.items returned.lines.items
  pub behind_drains : HostState
  pub behind_lines : HostState
  pub drains : InTurn Drained returned.drains.items old behind_drains
  pub lines : InTurn Talked returned.lines.items behind_drains behind_lines
  pub listeners : Given returned.listeners.items behind_lines new

-- a listener that came back was handed out for the same address and port as that of the worker
abbrev pub IsSameEnd : {N C K : Type 0} → (N → Option Endpoint) → ListenWorker Known N C K → N → Type 0
IsSameEnd endpoint job listener = endpoint listener ≡ endpoint job.listener

-- The workers ran, and their sinks, listeners and workers of lines are told of in the histories that the passes at home have seen.
pub record AreTold {R A B S N I O C K : Type 0} (runs : Runs (EitherPort R A B) S N I O C K) (sink : Told S) (Means : Meaning K) (moments : C → Option (ℕ → ℕ))
    (heard : N → Heard) (talk : I → O → Talk) (shares : List (EitherShared A B)) (homes : List Known) (jobs : Workers Known S N I O C K)
    (returned : Returned S N I O C) : Type 0 where
  pub ran : HaveRun runs shares homes jobs returned
  pub sinks : Zips (IsSinkTold sink moments shares homes) jobs.sinks.items returned.sinks.items
  pub listeners : Zips (IsListenTold Means moments heard shares homes) jobs.listeners.items returned.listeners.items
  pub lines : Zips (IsLineTold Means moments talk shares homes) jobs.lines.items returned.lines.items

-- So it is, or there was no memory for a run, and each came back as it was.
abbrev pub HaveReturned : {R A B S N I O C K : Type 0} → Runs (EitherPort R A B) S N I O C K → Told S → Meaning K → (C → Option (ℕ → ℕ)) → (N → Heard)
    → (I → O → Talk) → List (EitherShared A B) → List Known → Workers Known S N I O C K → Returned S N I O C → Type 0
HaveReturned runs sink Means moments heard talk shares homes jobs returned =
    AreTold runs sink Means moments heard talk shares homes jobs returned ⊎ AreEnded (λ pass. pass) homes jobs returned
