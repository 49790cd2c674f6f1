-- Workers that did not run, since there was no memory for it, called nothing.
use Rattle.std.proofs.Common.{◌≡◌, ◌∙◌, ℕ, List, [], ◌∷◌, All, true, false, Option, map, get_or, refl, sym, ap, subst}
use Rattle.std.proofs.lemmas.List.Elements.{All-cons, All-head, All-nil, All-tail}
use Rattle.channel_face.specs.Faces.{Own}
use Rattle.channel_face.specs.History.{opening}
use Rattle.shared_channel.specs.Passes.{Known}
use Rattle.shared_channel.specs.Ports.{own_calls}
use Rattle.keep_worker.specs.declared.worker.KeepWorker.{KeepWorker}
use Rattle.sink_worker.specs.Rounds.{Told}
use Rattle.sink_worker.specs.declared.worker.SinkWorker.{SinkWorker}
use Rattle.source_put.specs.Chains.{Meaning}
use Rattle.source_worker.specs.Rounds.{Heard}
use Rattle.source_worker.specs.declared.worker.ListenWorker.{ListenWorker}
use Rattle.channel_lock.specs.Calls.{calls_by}
use Rattle.two_channels.specs.declared.shared.EitherShared.{EitherShared}
use Rattle.run_tracks.specs.Homes.{Took}
use Rattle.run_tracks.specs.Listening.{home_tracks}
use Rattle.run_tracks.specs.Places.{TookEach, Zips}
use Rattle.run_tracks.specs.Told.{IsNew}
use Rattle.run_tracks.specs.Tracks.{ended, track_of}
use Rattle.run_tracks.proofs.Tracking.{own_same}
use Rattle.run_settling.specs.Draining.{EachGoesOn}
use Rattle.run_working.specs.Ends.{IsKeepEnded, IsListenEnded, IsSinkEnded}
use Rattle.run_working.specs.Histories.{IsKeepTold, IsListenTold, IsSinkTold}
use Rattle.run_working.specs.Wholes.{AreSilentAt, StaysSilent}
use Rattle.run_settling.specs.declared.at_home.AtHome.{AtHome}
use Rattle.run_working.proofs.Lasting.{took_each_silent}
use Rattle.run_working.proofs.Same.{Same, same_self}
use Rattle.run_working.proofs.Silence.{took_silent}
use Rattle.run_working.proofs.Zipping.{zips_self}

-- a new pass that was taken in called nothing, in what the pass at home has seen
pub none_called : (home p : Known) → IsNew p → Took home p → own_calls (p.number ∷ []) (opening home.view.base) home.view.seen ≡ []
none_called home p new took =
    own_same (p.number ∷ []) (opening home.view.base) p.view.seen home.view.seen took.seen.0
    (subst (λ (l : List ℕ). calls_by l home.view.seen ≡ calls_by l p.view.seen) new.0 took.seen.1)
    ∙ (λ i. own_calls (sym new.0 i) (opening (took.base i)) p.view.seen) ∙ new.1

-- so its track has ended where it begins
ended_same : (home p : Known) → IsNew p → Took home p → ended (track_of home p.number) ≡ track_of home p.number
ended_same home p new took = ap (λ (own : List Own). record (track_of home p.number) { own = own }) (none_called home p new took)

tracks_ended : (homes : List Known) (places : List ℕ) (passes : List Known) → All IsNew passes → TookEach homes (λ (p : Known). p) places passes
    → map ended (home_tracks (λ (p : Known). p) homes places passes) ≡ home_tracks (λ (p : Known). p) homes places passes
tracks_ended homes [] passes new took = refl
tracks_ended homes (place ∷ places) [] new took = refl
tracks_ended homes (place ∷ places) (p ∷ passes) new took =
    let one = ended_same (get_or homes place p) p (All-head IsNew p passes new) (took.0.1 p) in
    let rest = tracks_ended homes places passes (All-tail IsNew p passes new) took.1 in
    λ i. one i ∷ rest i

module _ {A B C : Type 0} (shares : List (EitherShared A B)) (homes last : List Known) (on : EachGoesOn homes last) where
  keep_unrun : (job : KeepWorker Known C) → IsNew job.port → StaysSilent job.channel job.port.number homes last → IsKeepEnded (λ (p : Known). p) homes job → IsKeepTold shares last job
  keep_unrun job new silent gone = record {
    upkeeps = [];
    rounds = λ share home.
        let p = get_or homes job.channel home in
        let q = get_or last job.channel home in
        ended_same q job.port new (took_silent p q job.port job.port.number new.0 (on.each job.channel home gone.0) (silent home) (gone.1 home));
  }

  -- keepers that did not run are told of with no round
  pub keepers_unrun : (jobs : List (KeepWorker Known C)) → All (λ (k : KeepWorker Known C). IsNew k.port) jobs → All (λ (k : KeepWorker Known C). StaysSilent k.channel k.port.number homes last) jobs
      → All (IsKeepEnded (λ (p : Known). p) homes) jobs → All (IsKeepTold shares last) jobs
  keepers_unrun [] new silent gone = All-nil (IsKeepTold shares last)
  keepers_unrun (job ∷ jobs) new silent gone =
      let New = λ (k : KeepWorker Known C). IsNew k.port in
      let Silent = λ (k : KeepWorker Known C). StaysSilent k.channel k.port.number homes last in
      let Gone = IsKeepEnded (λ (p : Known). p) homes in
      All-cons (IsKeepTold shares last) job jobs (keep_unrun job (All-head New job jobs new) (All-head Silent job jobs silent) (All-head Gone job jobs gone))
      (keepers_unrun jobs (All-tail New job jobs new) (All-tail Silent job jobs silent) (All-tail Gone job jobs gone))

module _ {A B S C : Type 0} (sink : Told S) (moments : C → Option (ℕ → ℕ)) (shares : List (EitherShared A B)) (homes : List Known) where
  sink_unrun : (job : SinkWorker Known S C) (back : SinkWorker AtHome S C) → IsNew job.port → IsSinkEnded (λ (p : Known). p) homes job back → IsSinkTold sink moments shares homes job back
  sink_unrun job back new gone = record {
    turns = [];
    rounds = λ share home.
        let same = ended_same (get_or homes job.channel home) job.port new (gone.took.1 home) in
        λ i. record { from = same i; sink = gone.sink i; moments = moments (gone.clock i) };
    number = gone.number;
    channel = gone.channel;
    batch = gone.batch;
  }

  -- sinks that did not run are told of with no round
  pub sinks_unrun : (jobs : List (SinkWorker Known S C)) (backs : List (SinkWorker AtHome S C)) → All (λ (s : SinkWorker Known S C). IsNew s.port) jobs
      → Zips (IsSinkEnded (λ (p : Known). p) homes) jobs backs → Zips (IsSinkTold sink moments shares homes) jobs backs
  sinks_unrun [] [] new gone = tt
  sinks_unrun [] (back ∷ backs) new gone = absurd gone
  sinks_unrun (job ∷ jobs) [] new gone = absurd gone
  sinks_unrun (job ∷ jobs) (back ∷ backs) new gone =
      let New = λ (s : SinkWorker Known S C). IsNew s.port in
      (sink_unrun job back (All-head New job jobs new) gone.0, sinks_unrun jobs backs (All-tail New job jobs new) gone.1)

module _ {A B N C K : Type 0} (Means : Meaning K) (moments : C → Option (ℕ → ℕ)) (heard : N → Heard) (shares : List (EitherShared A B)) (homes last : List Known) (on : EachGoesOn homes last) where
  listen_unrun : (job : ListenWorker Known N C K) (listener : N) → All IsNew job.ports.items → AreSilentAt homes last job.channels.items job.ports.items
      → IsListenEnded (λ (p : Known). p) homes job listener → IsListenTold Means moments heard shares last job listener
  listen_unrun job listener new silent gone =
      let places = job.channels.items in
      let passes = job.ports.items in
      let took = took_each_silent (λ (p : Known). p) homes last on places passes passes (zips_self Same same_self passes) new silent gone.took in
      let tracks = tracks_ended last places passes new took in
      record {
        built = false;
        before = [];
        chain = λ yes. absurd (let e : false ≡ true = yes in cc);
        after = [];
        later = moments job.clock;
        due = false;
        made = [];
        going = tt;
        unserved = λ no. tt;
        rounds = λ share i. record { into = record { route = record { links = []; ports = tracks i }; moments = moments job.clock }; heard = heard (gone.same i); due = false };
      }

  -- listeners that did not run are told of with no round
  pub listeners_unrun : (jobs : List (ListenWorker Known N C K)) (listeners : List N) → All (λ (l : ListenWorker Known N C K). All IsNew l.ports.items) jobs
      → All (λ (l : ListenWorker Known N C K). AreSilentAt homes last l.channels.items l.ports.items) jobs
      → Zips (IsListenEnded (λ (p : Known). p) homes) jobs listeners → Zips (IsListenTold Means moments heard shares last) jobs listeners
  listeners_unrun [] [] new silent gone = tt
  listeners_unrun [] (l ∷ listeners) new silent gone = absurd gone
  listeners_unrun (job ∷ jobs) [] new silent gone = absurd gone
  listeners_unrun (job ∷ jobs) (l ∷ listeners) new silent gone =
      let New = λ (l : ListenWorker Known N C K). All IsNew l.ports.items in
      let Silent = λ (l : ListenWorker Known N C K). AreSilentAt homes last l.channels.items l.ports.items in (
        listen_unrun job l (All-head New job jobs new) (All-head Silent job jobs silent) gone.0,
        listeners_unrun jobs listeners (All-tail New job jobs new) (All-tail Silent job jobs silent) gone.1,
      )
