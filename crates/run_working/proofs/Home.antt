-- After a run the passes of the workers' ports are of their channels, and their numbers are at home.
use Rattle.std.proofs.Common.{ℕ, List, [], ◌∷◌, ◌++◌, All, flat_map, arith}
use Rattle.std.proofs.lemmas.List.Elements.{All-append, All-cons, All-nil}
use Rattle.atomic_table.specs.Seated.{TableId}
use Rattle.shared_channel.specs.Passes.{Known}
use Rattle.keep_worker.specs.declared.worker.KeepWorker.{KeepWorker}
use Rattle.sink_worker.specs.declared.worker.SinkWorker.{SinkWorker}
use Rattle.source_worker.specs.declared.worker.ListenWorker.{ListenWorker}
use Rattle.line_worker.specs.declared.worker.LineWorker.{LineWorker}
use Rattle.run_tracks.specs.Dealt.{HasNumber, Owner}
use Rattle.run_tracks.specs.Places.{AreAt, Zips}
use Rattle.run_tracks.specs.Told.{IsNew}
use Rattle.run_tracks.proofs.Homing.{zips_length}
use Rattle.run_staff.specs.Ports.{IsKeepPort, IsSinkPort}
use Rattle.run_working.specs.Ends.{IsKeepEnded, IsLineEnded, IsListenEnded, IsSinkEnded}
use Rattle.run_staff.specs.Jobs.{AreNew, AreWorkers, HaveRoom, owners_at, owners_of}
use Rattle.run_working.specs.Runs.{AreEnded}
use Rattle.run_staff.specs.declared.workers.Returned.{Returned}
use Rattle.run_staff.specs.declared.workers.Workers.{Workers}
use Rattle.run_working.proofs.Same.{IsSameWorker, kind_at, kind_owned, kind_took}
use Rattle.run_working.proofs.Zipping.{all_map}

-- the places and the passes or ports of a worker, as lists
abbrev pub keep_places : {F C : Type 0} → KeepWorker F C → List ℕ
keep_places w = w.channel ∷ []

abbrev pub keep_ports : {F C : Type 0} → KeepWorker F C → List F
keep_ports w = w.port ∷ []

abbrev pub sink_places : {F S C : Type 0} → SinkWorker F S C → List ℕ
sink_places w = w.channel ∷ []

abbrev pub sink_ports : {F S C : Type 0} → SinkWorker F S C → List F
sink_ports w = w.port ∷ []

abbrev pub listen_places : {F N C K : Type 0} → ListenWorker F N C K → List ℕ
listen_places w = w.channels.items

abbrev pub listen_ports : {F N C K : Type 0} → ListenWorker F N C K → List F
listen_ports w = w.ports.items

abbrev pub line_places : {F I O C K : Type 0} → LineWorker F I O C K → List ℕ
line_places w = w.channels.items

abbrev pub line_ports : {F I O C K : Type 0} → LineWorker F I O C K → List F
line_ports w = w.ports.items

module _ {F : Type 0} (pass : F → Known) {S N I O C K : Type 0} where
  -- the ports of each worker have the channels and the numbers of its passes
  pub record AreSameWorkers (jobs : Workers Known S N I O C K) (new : Workers F S N I O C K) : Type 0 where
    pub keepers : Zips (IsSameWorker pass keep_places keep_ports keep_places keep_ports) jobs.keepers.items new.keepers.items
    pub sinks : Zips (IsSameWorker pass sink_places sink_ports sink_places sink_ports) jobs.sinks.items new.sinks.items
    pub listeners : Zips (IsSameWorker pass listen_places listen_ports listen_places listen_ports) jobs.listeners.items new.listeners.items
    pub lines : Zips (IsSameWorker pass line_places line_ports line_places line_ports) jobs.lines.items new.lines.items

  -- the ports after a run are of the channels that the passes were of
  pub workers_at : {Z : Type 0} (table : Z → TableId) (shares : List Z) (jobs : Workers Known S N I O C K) (new : Workers F S N I O C K)
      → AreWorkers table shares (λ (p : Known). p) jobs → AreSameWorkers jobs new → AreWorkers table shares pass new
  workers_at table shares jobs new at same = record {
    keepers = all_map (λ (w : KeepWorker F C). AreAt table shares pass (keep_places w) (keep_ports w)) (IsKeepPort table shares pass) (λ w here. here.0) new.keepers.items
        (kind_at pass keep_places keep_ports keep_places keep_ports table shares jobs.keepers.items new.keepers.items same.keepers
        (all_map (IsKeepPort table shares (λ (p : Known). p)) (λ (w : KeepWorker Known C). AreAt table shares (λ (p : Known). p) (keep_places w) (keep_ports w)) (λ w here. (here, tt)) jobs.keepers.items at.keepers));
    sinks = all_map (λ (w : SinkWorker F S C). AreAt table shares pass (sink_places w) (sink_ports w)) (IsSinkPort table shares pass) (λ w here. here.0) new.sinks.items
        (kind_at pass sink_places sink_ports sink_places sink_ports table shares jobs.sinks.items new.sinks.items same.sinks
        (all_map (IsSinkPort table shares (λ (p : Known). p)) (λ (w : SinkWorker Known S C). AreAt table shares (λ (p : Known). p) (sink_places w) (sink_ports w)) (λ w here. (here, tt)) jobs.sinks.items at.sinks));
    listeners = kind_at pass listen_places listen_ports listen_places listen_ports table shares jobs.listeners.items new.listeners.items same.listeners at.listeners;
    lines = kind_at pass line_places line_ports line_places line_ports table shares jobs.lines.items new.lines.items same.lines at.lines;
  }

  -- after a run the number of each worker's new passes is at home
  pub numbers_home : (homes : List Known) (jobs : Workers Known S N I O C K) (new : Workers F S N I O C K) (returned : Returned S N I O C)
      → AreNew jobs → AreSameWorkers jobs new → AreEnded pass homes new returned → All (λ o. HasNumber homes o.place o.number) (owners_of jobs)
  numbers_home homes jobs new returned fresh same ended =
      let P = λ (o : Owner). HasNumber homes o.place o.number in
      let keepers = flat_map (λ (k : KeepWorker Known C). owners_at (k.channel ∷ []) (k.port ∷ [])) jobs.keepers.items in
      let sinks = flat_map (λ (s : SinkWorker Known S C). owners_at (s.channel ∷ []) (s.port ∷ [])) jobs.sinks.items in
      let listeners = flat_map (λ (l : ListenWorker Known N C K). owners_at l.channels.items l.ports.items) jobs.listeners.items in
      let lines = flat_map (λ (l : LineWorker Known I O C K). owners_at l.channels.items l.ports.items) jobs.lines.items in
      All-append P keepers (sinks ++ (listeners ++ lines))
      (kind_took pass keep_places keep_ports keep_places keep_ports (IsKeepEnded pass homes) homes (λ w is. (is, tt)) jobs.keepers.items new.keepers.items same.keepers
      (all_map (λ (k : KeepWorker Known C). IsNew k.port) (λ (k : KeepWorker Known C). All IsNew (keep_ports k)) (λ k one. All-cons IsNew k.port [] one (All-nil IsNew)) jobs.keepers.items fresh.keepers) ended.keepers)
      (All-append P sinks (listeners ++ lines)
      (kind_owned pass sink_places sink_ports sink_places sink_ports (IsSinkEnded pass homes) homes (λ w e is. (is.took, tt)) jobs.sinks.items new.sinks.items returned.sinks.items same.sinks
      (all_map (λ (s : SinkWorker Known S C). IsNew s.port) (λ (s : SinkWorker Known S C). All IsNew (sink_ports s)) (λ s one. All-cons IsNew s.port [] one (All-nil IsNew)) jobs.sinks.items fresh.sinks) ended.sinks)
      (All-append P listeners lines
      (kind_owned pass listen_places listen_ports listen_places listen_ports (IsListenEnded pass homes) homes (λ w e is. is.took) jobs.listeners.items new.listeners.items returned.listeners.items same.listeners fresh.listeners ended.listeners)
      (kind_owned pass line_places line_ports line_places line_ports (IsLineEnded pass homes) homes (λ w e is. is.took) jobs.lines.items new.lines.items returned.lines.items same.lines fresh.lines ended.lines)))

  -- there is as much room after a run as before
  pub room_kept : (jobs : Workers Known S N I O C K) (new : Workers F S N I O C K) (returned : Returned S N I O C)
      → AreSameWorkers jobs new → HaveRoom jobs returned → HaveRoom new returned
  room_kept jobs new returned same room = record {
    sinks = (room.sinks.0, let e = zips_length (IsSameWorker pass sink_places sink_ports sink_places sink_ports) jobs.sinks.items new.sinks.items same.sinks in let r = room.sinks.1 in omega arith);
    listeners = (room.listeners.0, let e = zips_length (IsSameWorker pass listen_places listen_ports listen_places listen_ports) jobs.listeners.items new.listeners.items same.listeners in let r = room.listeners.1 in omega arith);
    lines = (room.lines.0, let e = zips_length (IsSameWorker pass line_places line_ports line_places line_ports) jobs.lines.items new.lines.items same.lines in let r = room.lines.1 in omega arith);
  }
