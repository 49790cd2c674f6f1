-- The workers of a run before it, and the numbers that they own.
use Rattle.std.specs.Prelude.{ℕ, List, [], ◌∷◌, ◌++◌, All, flat_map, slice_index_or}
use Rattle.atomic_table.specs.Seated.{TableId}
use Rattle.shared_channel.specs.Passes.{Known}
use Rattle.two_channels.specs.declared.shared.EitherShared.{EitherShared}
use Rattle.keep_worker.specs.declared.worker.KeepWorker.{KeepWorker}
use Rattle.sink_worker.specs.declared.worker.SinkWorker.{SinkWorker}
use Rattle.source_worker.specs.Workers.{CanListen}
use Rattle.source_worker.specs.declared.worker.ListenWorker.{ListenWorker}
use Rattle.line_worker.specs.Workers.{CanServe}
use Rattle.line_worker.specs.declared.worker.LineWorker.{LineWorker}
use Rattle.two_channels.specs.Shares.{IsDisk}
use Rattle.run_tracks.specs.Dealt.{Owner}
use Rattle.run_tracks.specs.Told.{IsNew}
use Rattle.run_staff.specs.Ports.{AreLinePorts, AreListenPorts, IsKeepPort, IsSinkPort}
use Rattle.run_settling.specs.Draining.{HasRoom}
use Rattle.run_staff.specs.declared.workers.Returned.{Returned}
use Rattle.run_staff.specs.declared.workers.Workers.{Workers}

-- each worker's passes are of its channels
pub record AreWorkers {Z F S N I O C K : Type 0} (table : Z → TableId) (shares : List Z) (pass : F → Known) (w : Workers F S N I O C K) : Type 0 where
  pub keepers : All (IsKeepPort table shares pass) w.keepers.items
  pub sinks : All (IsSinkPort table shares pass) w.sinks.items
  pub listeners : All (AreListenPorts table shares pass) w.listeners.items
  pub lines : All (AreLinePorts table shares pass) w.lines.items

-- there is room for what comes back of each kind
pub record HaveRoom {F S N I O C K : Type 0} (w : Workers F S N I O C K) (r : Returned S N I O C) : Type 0 where
  pub sinks : HasRoom w.sinks.items r.sinks
  pub listeners : HasRoom w.listeners.items r.listeners
  pub lines : HasRoom w.lines.items r.lines

-- the rules of each are rules of its kind, and its selector names its channels
pub record CanRun {F S N I O C K : Type 0} (w : Workers F S N I O C K) : Type 0 where
  pub listeners : All CanListen w.listeners.items
  pub lines : All CanServe w.lines.items

-- each channel that is kept is on a disk
abbrev pub AreOnDisks : {A B S N I O C K : Type 0} → List (EitherShared A B) → Workers Known S N I O C K → Type 0
AreOnDisks {A} {B} shares jobs = All (λ k. (share : EitherShared A B) → IsDisk (slice_index_or shares k.channel share)) jobs.keepers.items

-- each pass has one number, and has made no call
pub record AreNew {S N I O C K : Type 0} (jobs : Workers Known S N I O C K) : Type 0 where
  pub keepers : All (λ k. IsNew k.port) jobs.keepers.items
  pub sinks : All (λ s. IsNew s.port) jobs.sinks.items
  pub listeners : All (λ l. All IsNew l.ports.items) jobs.listeners.items
  pub lines : All (λ l. All IsNew l.ports.items) jobs.lines.items

-- a worker's passes, each of the channel at its place
abbrev pub owners_at : List ℕ → List Known → List Owner
owners_at [] passes = []
owners_at (place ∷ places) [] = []
owners_at (place ∷ places) (pass ∷ passes) = record { place = place; number = pass.number } ∷ owners_at places passes

-- those of all workers
abbrev pub owners_of : {S N I O C K : Type 0} → Workers Known S N I O C K → List Owner
owners_of {S} {N} {I} {O} {C} {K} jobs =
    flat_map (λ (k : KeepWorker Known C). owners_at (k.channel ∷ []) (k.port ∷ [])) jobs.keepers.items
    ++ (flat_map (λ (s : SinkWorker Known S C). owners_at (s.channel ∷ []) (s.port ∷ [])) jobs.sinks.items
    ++ (flat_map (λ (l : ListenWorker Known N C K). owners_at l.channels.items l.ports.items) jobs.listeners.items
    ++ flat_map (λ (l : LineWorker Known I O C K). owners_at l.channels.items l.ports.items) jobs.lines.items))
