-- The passes of workers after a run.
use Rattle.std.proofs.Common.{◌≡◌, ◌∙◌, ℕ, List, [], ◌∷◌, Bool, true, false, Option, Result, refl, sym, ap, subst}
use Rattle.std.specs.declared.alloc.Global.{Global}
use Rattle.std.specs.declared.vec.Vec.{Vec}
use Rattle.event_core.specs.Content.{Content}
use Rattle.channel_face.specs.Faces.{Own}
use Rattle.channel_face.specs.History.{Opening, Step}
use Rattle.channel_face.specs.Machine.{State}
use Rattle.flume_host.specs.Listens.{Endpoint}
use Rattle.plug_in.specs.declared.sink.SinkRefused.{SinkRefused}
use Rattle.keep_worker.specs.Answers.{needs_mend}
use Rattle.keep_worker.specs.Rounds.{Checks, Face, Mends, MendsIf, Prunes, Round, Rounds, face}
use Rattle.keep_worker.specs.Workers.{KeepRan}
use Rattle.keep_worker.specs.declared.keeping.Upkeep.{Upkeep}
use Rattle.keep_worker.specs.declared.worker.KeepWorker.{KeepWorker}
use Rattle.shared_channel.specs.Calls.{SawOf}
use Rattle.shared_channel.specs.Passes.{Known}
use Rattle.shared_channel.specs.Ports.{Later, later_none, later_then}
use Rattle.sink_worker.specs.Rounds.{MendsOnce, TurnsOnce, told}
use Rattle.sink_worker.specs.Workers.{SinkRan, taking}
use Rattle.sink_worker.specs.declared.worker.SinkWorker.{SinkWorker}
use Rattle.source_put.specs.Chains.{Meaning}
use Rattle.netcat_source.specs.Into.{TakesLine}
use Rattle.source_worker.specs.Rounds.{Heard, MendsInto, Session}
use Rattle.source_worker.specs.Workers.{ListenRan, serving}
use Rattle.source_worker.specs.declared.worker.ListenWorker.{ListenWorker}
use Rattle.line_worker.specs.Turns.{TakesTurn}
use Rattle.line_worker.specs.Workers.{LineRan, Talk, feeding}
use Rattle.line_worker.specs.declared.worker.LineWorker.{LineWorker}
use Rattle.two_channels.specs.Ports.{IsOnDisk, LaterPort, SawIn, SawOnDisk, own_of, pass_of, seen_of}
use Rattle.two_channels.specs.declared.port.EitherPort.{EitherPort}
use Rattle.two_channels.specs.declared.shared.EitherShared.{EitherShared}
use Rattle.run_tracks.specs.Listening.{PortMends}
use Rattle.run_tracks.specs.Places.{Zips}
use Rattle.run_tracks.specs.Told.{PortPuts, as_face}
use Rattle.run_tracks.proofs.Telling.{either_face, either_steady}
use Rattle.run_working.specs.Opened.{IsKeepOpened, IsLineOpened, IsListenOpened, IsSinkOpened}
use Rattle.run_working.proofs.Going.{lines_later, listen_later, sink_later}
use Rattle.crew.specs.declared.draining.DrainWorker.{DrainWorker}
use Rattle.run_working.specs.Runs.{AreOpened, EachOnce, runs}
use Rattle.run_staff.specs.declared.workers.Workers.{Workers}
use Rattle.run_working.proofs.Home.{AreSameWorkers, keep_places, keep_ports, line_places, line_ports, listen_places, listen_ports, sink_places, sink_ports}
use Rattle.run_working.proofs.Same.{IsSameWorker, Same, same_later, same_self}
use Rattle.run_working.proofs.Zipping.{ran_zips, zips_self, zips_then}

same_from : (p q r : Known) → q ≡ p → Later q r → Same p r
same_from p q r is later = subst (λ (x : Known). Same x r) is (same_later q r later)

-- rounds of the worker of a channel leave its port the same port after some calls
module _ {F : Type 0} (f : Face F) (IsLater : F → F → Type 0) (self : (p : F) → IsLater p p) (trans : (p q r : F) → IsLater p q → IsLater q r → IsLater p r)
    (laters : (p q : F) → f.kept p q → IsLater p q) where
  mend_later : (b : Bool) (p q : F) → MendsIf (Checks f) (Prunes f) (Mends f) b p q → IsLater p q
  mend_later true p q did = laters p q did.1.same
  mend_later false p q is = subst (IsLater p) (sym is) (self p)

  round_later : (upkeep : Upkeep) (p q : F) → Round f p upkeep q → IsLater p q
  round_later upkeep p q round =
      let kept = round.1 in
      trans p round.0 q (trans p kept.0 round.0 (laters p kept.0 kept.1.same) (laters kept.0 round.0 kept.2.same))
      (mend_later (needs_mend upkeep.checked upkeep.pruned) round.0 q round.2)

  keep_later : (upkeeps : List Upkeep) (p q : F) → Rounds f upkeeps p q → IsLater p q
  keep_later [] p q is = subst (IsLater p) (sym is) (self p)
  keep_later (upkeep ∷ upkeeps) p q rounds = trans p rounds.0 q (round_later upkeep p rounds.0 rounds.1) (keep_later upkeeps rounds.0 q rounds.2)

module _ {R A B : Type 0} (disk : A → Opening → List Step → Type 0) (memory : B → Opening → List Step → Type 0) where
  abbrev pub Saws : EitherPort R A B → List Own → State → Type 0
  Saws = SawIn disk memory

  module _ (tells : A → Bool) (laid : A → State → Type 0) (pruned : A → Type 0) where
    abbrev pub as_keeper : Face (EitherPort R A B)
    as_keeper = face own_of Saws seen_of LaterPort IsOnDisk (SawOnDisk (SawOf disk tells laid)) (SawOnDisk (SawOf disk tells (λ c s. pruned c)))

    abbrev pub KeepRuns : {C : Type 0} → KeepWorker (EitherPort R A B) C → KeepWorker (EitherPort R A B) C → Type 0
    KeepRuns old new = KeepRan as_keeper old new

    -- the worker that keeps a channel has a port of the same channel and numbers after its run
    pub keep_same : {C : Type 0} (shares : List (EitherShared A B)) (job : KeepWorker Known C) (v w : KeepWorker (EitherPort R A B) C) → IsKeepOpened shares job v → KeepRuns v w
        → IsSameWorker pass_of keep_places keep_ports keep_places keep_ports job w
    keep_same shares job v w opened ran = record {
      channels' = ap (λ (c : ℕ). c ∷ []) (ran.channel ∙ opened.channel);
      ports' = (
        same_from job.port (pass_of v.port) (pass_of w.port) opened.pass
            (keep_later as_keeper (λ p q. Later (pass_of p) (pass_of q)) (λ p. later_none (pass_of p)) (λ p q r f g. later_then (pass_of p) (pass_of q) (pass_of r) f g)
            (either_face disk memory).laters ran.upkeeps v.port w.port ran.rounds),
        tt,
      );
    }

  module _ {S C : Type 0} (delivers : S → List Content → ℕ → Result (Unit {0}) SinkRefused → S → Type 0) (faults : S → ℕ) (moments : C → Option (ℕ → ℕ)) where
    abbrev pub SinkRuns : SinkWorker (EitherPort R A B) S C → SinkWorker (EitherPort R A B) S C → Type 0
    SinkRuns old new = SinkRan (TurnsOnce (as_face pass_of Saws LaterPort) (told delivers faults) old.batch) (MendsOnce (as_face pass_of Saws LaterPort) IsOnDisk) moments old new

    -- a sink's worker has a port of the same channel and numbers after its run
    pub sink_same : (shares : List (EitherShared A B)) (job : SinkWorker Known S C) (v w : SinkWorker (EitherPort R A B) S C) → IsSinkOpened shares job v → SinkRuns v w
        → IsSameWorker pass_of sink_places sink_ports sink_places sink_ports job w
    sink_same shares job v w opened ran = record {
      channels' = ap (λ (c : ℕ). c ∷ []) (ran.channel ∙ opened.channel);
      ports' = (
        same_from job.port (pass_of v.port) (pass_of w.port) opened.pass
            (sink_later pass_of Saws LaterPort (either_face disk memory) IsOnDisk either_steady (told delivers faults) v.batch ran.turns (taking moments v) (taking moments w) ran.rounds),
        tt,
      );
    }

  module _ {N C K : Type 0} (Means : Meaning K) (moments : C → Option (ℕ → ℕ)) (heard : N → Heard) (stands : N → Option Endpoint) where
    abbrev pub ListenRuns : ListenWorker (EitherPort R A B) N C K → ListenWorker (EitherPort R A B) N C K → Type 0
    ListenRuns old new =
        ListenRan (Session old.rules (PortPuts pass_of Saws LaterPort) old.selector Means old.host)
        (MendsInto (PortMends pass_of Saws LaterPort IsOnDisk)) moments heard stands old new

    -- a listener's worker has ports of the same channels and numbers after its run
    pub listen_same : (shares : List (EitherShared A B)) (job : ListenWorker Known N C K) (v w : ListenWorker (EitherPort R A B) N C K) → IsListenOpened shares job v → ListenRuns v w
        → IsSameWorker pass_of listen_places listen_ports listen_places listen_ports job w
    listen_same shares job v w opened ran = record {
      channels' = ap (λ (c : Vec ℕ Global). c.items) (ran.channels ∙ opened.channels);
      ports' = zips_then (λ p port. pass_of port ≡ p) (λ p q. Later (pass_of p) (pass_of q)) (λ p port. Same p (pass_of port))
          (λ p q r is later. same_from p (pass_of q) (pass_of r) is later) job.ports.items v.ports.items w.ports.items opened.passes
          (listen_later pass_of Saws LaterPort (either_face disk memory) IsOnDisk Means v.selector v.host v.rules _
          (serving moments heard v ran.before false) (serving moments heard w ran.after ran.due) ran.rounds.made);
    }

  module _ {I O C K : Type 0} (Means : Meaning K) (moments : C → Option (ℕ → ℕ)) (talk : I → O → Talk) where
    abbrev pub LineRuns : LineWorker (EitherPort R A B) I O C K → LineWorker (EitherPort R A B) I O C K → Type 0
    LineRuns old new =
        LineRan (TakesTurn (TakesLine (PortPuts pass_of Saws LaterPort) old.selector Means old.host) (MendsInto (PortMends pass_of Saws LaterPort IsOnDisk)))
        moments talk old new

    -- a worker of lines has ports of the same channels and numbers after its run
    pub line_same : (shares : List (EitherShared A B)) (job : LineWorker Known I O C K) (v w : LineWorker (EitherPort R A B) I O C K) → IsLineOpened shares job v → LineRuns v w
        → IsSameWorker pass_of line_places line_ports line_places line_ports job w
    line_same shares job v w opened ran = record {
      channels' = ap (λ (c : Vec ℕ Global). c.items) (ran.channels ∙ opened.channels);
      ports' = zips_then (λ p port. pass_of port ≡ p) (λ p q. Later (pass_of p) (pass_of q)) (λ p port. Same p (pass_of port))
          (λ p q r is later. same_from p (pass_of q) (pass_of r) is later) job.ports.items v.ports.items w.ports.items opened.passes
          (lines_later pass_of Saws LaterPort (either_face disk memory) IsOnDisk Means v.selector v.host _
          (feeding moments v ran.before false) (feeding moments w ran.after ran.due) ran.session.served.takes);
    }

  module _ {S N I O C K : Type 0} (delivers : S → List Content → ℕ → Result (Unit {0}) SinkRefused → S → Type 0) (faults : S → ℕ)
      (Means : Meaning K) (moments : C → Option (ℕ → ℕ)) (heard : N → Heard) (stands : N → Option Endpoint)
      (Drains : DrainWorker I → DrainWorker I → Type 0) (talk : I → O → Talk) (tells : A → Bool) (laid : A → State → Type 0) (pruned : A → Type 0) where
    -- workers that got their ports and ran
    pub same_behind : (shares : List (EitherShared A B)) (jobs : Workers Known S N I O C K) (old new : Workers (EitherPort R A B) S N I O C K)
        → AreOpened shares jobs old
        → EachOnce (runs (KeepRuns tells laid pruned) (SinkRuns delivers faults moments) (ListenRuns Means moments heard stands) Drains (LineRuns Means moments talk)) old new
        → AreSameWorkers pass_of jobs new
    same_behind shares jobs old new opened once = record {
      keepers = zips_then (IsKeepOpened shares) (KeepRuns tells laid pruned) (IsSameWorker pass_of keep_places keep_ports keep_places keep_ports) (keep_same tells laid pruned shares)
          jobs.keepers.items old.keepers.items new.keepers.items opened.keepers (ran_zips (KeepRuns tells laid pruned) old.keepers.items new.keepers.items once.keepers);
      sinks = zips_then (IsSinkOpened shares) (SinkRuns delivers faults moments) (IsSameWorker pass_of sink_places sink_ports sink_places sink_ports) (sink_same delivers faults moments shares)
          jobs.sinks.items old.sinks.items new.sinks.items opened.sinks (ran_zips (SinkRuns delivers faults moments) old.sinks.items new.sinks.items once.sinks);
      listeners = zips_then (IsListenOpened shares) (ListenRuns Means moments heard stands) (IsSameWorker pass_of listen_places listen_ports listen_places listen_ports) (listen_same Means moments heard stands shares)
          jobs.listeners.items old.listeners.items new.listeners.items opened.listeners (ran_zips (ListenRuns Means moments heard stands) old.listeners.items new.listeners.items once.listeners);
      lines = zips_then (IsLineOpened shares) (LineRuns Means moments talk) (IsSameWorker pass_of line_places line_ports line_places line_ports) (line_same Means moments talk shares)
          jobs.lines.items old.lines.items new.lines.items opened.lines (ran_zips (LineRuns Means moments talk) old.lines.items new.lines.items once.lines);
    }

-- workers that never got them
all_same : (passes : List Known) → Zips (λ p q. Same p q) passes passes
all_same passes = zips_self (λ (p q : Known). Same p q) same_self passes

-- each of their passes is the one that it was
pub same_idle : {S N I O C K : Type 0} (jobs : Workers Known S N I O C K) → AreSameWorkers (λ (p : Known). p) jobs jobs
same_idle {S} {N} {I} {O} {C} {K} jobs = record {
  keepers = zips_self (IsSameWorker (λ (p : Known). p) keep_places keep_ports keep_places keep_ports) (λ (k : KeepWorker Known C). record { channels' = refl; ports' = all_same (k.port ∷ []) }) jobs.keepers.items;
  sinks = zips_self (IsSameWorker (λ (p : Known). p) sink_places sink_ports sink_places sink_ports) (λ (s : SinkWorker Known S C). record { channels' = refl; ports' = all_same (s.port ∷ []) }) jobs.sinks.items;
  listeners = zips_self (IsSameWorker (λ (p : Known). p) listen_places listen_ports listen_places listen_ports) (λ (l : ListenWorker Known N C K). record { channels' = refl; ports' = all_same l.ports.items }) jobs.listeners.items;
  lines = zips_self (IsSameWorker (λ (p : Known). p) line_places line_ports line_places line_ports) (λ (l : LineWorker Known I O C K). record { channels' = refl; ports' = all_same l.ports.items }) jobs.lines.items;
}
