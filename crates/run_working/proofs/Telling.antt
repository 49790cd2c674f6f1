-- What the workers of a run called is in the histories of their channels.
use Rattle.std.proofs.Common.{◌≡◌, ◌∙◌, ℕ, zero, suc, List, [], ◌∷◌, ◌++◌, map, length, All, Bool, true, false, Option, Result, get_or, refl, sym, ap, subst, arith}
use Rattle.std.proofs.lemmas.List.Elements.{All-head, All-tail}
use Rattle.std.specs.List.{AllByRecursion}
use Rattle.std.specs.declared.alloc.Global.{Global}
use Rattle.std.specs.declared.vec.Vec.{Vec}
use Rattle.flume_host.specs.Listens.{Endpoint}
use Rattle.selectors.specs.declared.selector.Selector.{Selector}
use Rattle.source_put.specs.Chains.{Meaning}
use Rattle.source_put.specs.declared.chain.HostNames.{HostNames}
use Rattle.chain_plan.specs.Builds.{AreBuilt}
use Rattle.chain_plan.specs.declared.plan.LinkPlan.{LinkPlan}
use Rattle.netcat_source.specs.Into.{TakesLine}
use Rattle.netcat_source.specs.declared.session.LineRules.{LineRules}
use Rattle.flume_host.specs.Links.{LinkTold}
use Rattle.source_put.specs.Into.{Into}
use Rattle.source_worker.specs.Rounds.{Answer, Heard, IsStopped, MendsIf, Round, Rounds as ListenRounds, Serving, Session, is_due}
use Rattle.source_worker.specs.Workers.{serving}
use Rattle.source_worker.specs.declared.ends.LinkEnd.{LinkEnd}
use Rattle.source_worker.specs.declared.ends.SessionRules.{SessionRules}
use Rattle.source_worker.specs.declared.worker.ListenWorker.{ListenWorker}
use Rattle.line_worker.specs.Turns.{TakesTurn}
use Rattle.line_worker.specs.Workers.{Session as LineSession, Talk, feeding, told_by}
use Rattle.line_worker.specs.declared.worker.LineWorker.{LineWorker}
use Rattle.event_core.specs.Content.{Content}
use Rattle.channel_face.specs.Faces.{Own}
use Rattle.channel_face.specs.History.{Opening, Step}
use Rattle.plug_in.specs.declared.sink.SinkRefused.{SinkRefused}
use Rattle.shared_channel.specs.Passes.{Known}
use Rattle.shared_channel.specs.Ports.{owned}
use Rattle.sink_worker.specs.Rounds.{Rounds, told}
use Rattle.sink_worker.specs.Workers.{taking}
use Rattle.sink_worker.specs.declared.worker.SinkWorker.{SinkWorker}
use Rattle.two_channels.specs.Ports.{IsOnDisk, LaterPort, pass_of}
use Rattle.two_channels.specs.Shares.{IsDisk}
use Rattle.two_channels.specs.declared.port.EitherPort.{EitherPort}
use Rattle.two_channels.specs.declared.shared.EitherShared.{EitherShared}
use Rattle.run_tracks.specs.Homes.{Took}
use Rattle.run_tracks.specs.Listening.{IsDiskAt, MendedEach, MendedInto, home_tracks}
use Rattle.run_tracks.specs.Places.{AreKinds, TookEach, Zips}
use Rattle.run_tracks.specs.Told.{IsNew}
use Rattle.run_tracks.specs.Tracks.{Gave, Mended, Stood, Track, Turned, ended, track_of}
use Rattle.run_tracks.proofs.Listened.{listened_home}
use Rattle.run_tracks.proofs.Moving.{mend}
use Rattle.run_tracks.proofs.Telling.{either_face, either_steady}
use Rattle.run_tracks.proofs.Tracking.{matches_home, rounds}
use Rattle.run_settling.specs.Draining.{IsSinkHome}
use Rattle.run_working.specs.Ends.{IsLineEnded, IsListenEnded, IsSinkEnded}
use Rattle.run_working.specs.Histories.{IsDiskOf, IsLineTold, IsListenTold, IsSinkTold, MendedOver, StopsLast}
use Rattle.run_working.specs.Opened.{IsLineOpened, IsListenOpened, IsSinkOpened}
use Rattle.run_settling.specs.declared.at_home.AtHome.{AtHome}
use Rattle.run_staff.specs.declared.workers.LineEnded.{LineEnded}
use Rattle.run_working.proofs.Behind.{LineRuns, ListenRuns, Saws, SinkRuns}
use Rattle.run_working.proofs.Going.{sink_later}
use Rattle.run_working.proofs.Lined.{are_disks, session_home}
use Rattle.run_working.proofs.Owning.{ended_home}

module _ {R A B : Type 0} (disk : A → Opening → List Step → Type 0) (memory : B → Opening → List Step → Type 0)
    {S C : Type 0} (delivers : S → List Content → ℕ → Result (Unit {0}) SinkRefused → S → Type 0) (faults : S → ℕ) (moments : C → Option (ℕ → ℕ)) where
  -- a sink's rounds are calls with its number in its channel's history
  pub sink_told : (shares : List (EitherShared A B)) (homes : List Known) (job : SinkWorker Known S C) (v w : SinkWorker (EitherPort R A B) S C)
      (back : SinkWorker AtHome S C) → IsNew job.port → IsSinkOpened shares job v → SinkRuns disk memory delivers faults moments v w
      → IsSinkEnded pass_of homes w back → IsSinkTold (told delivers faults) moments shares homes job back
  sink_told shares homes job v w back fresh opened ran gone =
      let saws = Saws {R = R} disk memory in
      let n = job.port.number in
      let later = sink_later pass_of saws LaterPort (either_face disk memory) IsOnDisk either_steady (told delivers faults) v.batch ran.turns (taking moments v) (taking moments w) ran.rounds in
      let channel : w.channel ≡ job.channel = ran.channel ∙ opened.channel in
      let numbers : (pass_of w.port).view.numbers ≡ n ∷ [] = later.numbers ∙ ap (λ (p : Known). p.view.numbers) opened.pass ∙ fresh.0 in
      let none : owned (pass_of v.port).view ≡ [] = ap (λ (p : Known). owned p.view) opened.pass ∙ fresh.1 in
      record {
        turns = ran.turns;
        rounds = λ s d.
            let home = get_or homes job.channel d in
            let took : Took home (pass_of w.port) = subst (λ (i : ℕ). Took (get_or homes i d) (pass_of w.port)) channel (gone.took.1 d) in
            let t = ended (track_of home n) in
            let D = IsDisk (get_or shares job.channel s) in
            let same = opened.kind s in
            let got = rounds pass_of saws LaterPort (either_face disk memory) (told delivers faults) v.batch IsOnDisk either_steady D ran.turns (taking moments v) (taking moments w) t
            (matches_home home (pass_of w.port) n numbers took) (same.1, same.0) ran.rounds in
            subst (λ (x : ℕ × List Own × S × C × S × C). Rounds (Turned (told delivers faults) x.0) (Mended D) ran.turns
            (record { from = record t { own = x.1 }; sink = x.2; moments = moments x.3 }) (record { from = t; sink = x.4; moments = moments x.5 }))
            (λ i. (opened.batch i, none i, opened.sink i, opened.clock i, sym gone.sink i, sym gone.clock i)) got.1;
        number = gone.number ∙ later.number ∙ ap (λ (p : Known). p.number) opened.pass;
        channel = gone.channel ∙ channel;
        batch = gone.batch ∙ ran.batch ∙ opened.batch;
      }

  -- the number of a sink that came back is at home
  pub sink_home : (shares : List (EitherShared A B)) (homes : List Known) (job : SinkWorker Known S C) (v w : SinkWorker (EitherPort R A B) S C)
      (back : SinkWorker AtHome S C) → IsNew job.port → IsSinkOpened shares job v → SinkRuns disk memory delivers faults moments v w
      → IsSinkEnded pass_of homes w back → IsSinkHome homes back
  sink_home shares homes job v w back fresh opened ran gone =
      let later = sink_later pass_of (Saws {R = R} disk memory) LaterPort (either_face disk memory) IsOnDisk either_steady (told delivers faults) v.batch ran.turns (taking moments v) (taking moments w) ran.rounds in
      let number : (pass_of w.port).number ≡ job.port.number = later.number ∙ ap (λ (p : Known). p.number) opened.pass in
      ended_home pass_of homes w back (later.numbers ∙ ap (λ (p : Known). p.view.numbers) opened.pass ∙ fresh.0 ∙ ap (λ (n : ℕ). n ∷ []) (sym number)) gone

-- the tracks of ports are those of their passes
tracks_same : {R A B : Type 0} (homes : List Known) (channels : List ℕ) (passes : List Known) (ports : List (EitherPort R A B))
    → Zips (λ p port. pass_of port ≡ p) passes ports → home_tracks pass_of homes channels ports ≡ home_tracks (λ (p : Known). p) homes channels passes
tracks_same homes [] passes ports same = refl
tracks_same homes (c ∷ channels) [] [] same = refl
tracks_same homes (c ∷ channels) [] (port ∷ ports) same = absurd same
tracks_same homes (c ∷ channels) (p ∷ passes) [] same = absurd same
tracks_same homes (c ∷ channels) (p ∷ passes) (port ∷ ports) same =
    let rest = tracks_same homes channels passes ports same.1 in
    λ i. track_of (get_or homes c (same.0 i)) (same.0 i).number ∷ rest i

-- the ports that are on a disk are those of channels that are
disks_at : {R A B : Type 0} (shares : List (EitherShared A B)) (share : EitherShared A B) (channels : List ℕ) (ports : List (EitherPort R A B)) → AreKinds shares channels ports
    → (i : ℕ) → (IsDiskAt IsOnDisk ports i → IsDiskOf shares channels share i) × (IsDiskOf shares channels share i → IsDiskAt IsOnDisk ports i)
disks_at shares share [] [] kinds i = (λ x. absurd x, λ x. absurd (let l = x.0 in omega arith))
disks_at shares share [] (port ∷ ports) kinds i = absurd kinds
disks_at shares share (c ∷ channels) [] kinds i = absurd kinds
disks_at shares share (c ∷ channels) (port ∷ ports) kinds zero = let k = kinds.0 share in (λ x. (omega arith, k.1 x), λ x. k.0 x.1)
disks_at shares share (c ∷ channels) (port ∷ ports) kinds (suc i) =
    let k = disks_at shares share channels ports kinds.1 i in
    (λ x. let y = k.0 x in (let l = y.0 in omega arith, y.1), λ x. k.1 (let l = x.0 in omega arith, x.1))

-- mends of channels that are on a disk exactly where others are
mended_each : (D E : ℕ → Type 0) → ((i : ℕ) → (D i → E i) × (E i → D i)) → (olds : List Track) (answers : List Answer) (news : List Track) → MendedEach D olds answers news → MendedEach E olds answers news
mended_each D E same [] [] [] none = tt
mended_each D E same [] [] (t ∷ news) none = absurd none
mended_each D E same [] (answer ∷ answers) news none = absurd none
mended_each D E same (t ∷ olds) [] news none = absurd none
mended_each D E same (t ∷ olds) (answer ∷ answers) [] none = absurd none
mended_each D E same (t ∷ olds) (answer ∷ answers) (u ∷ news) (one, others) = (
  (one.0, one.1, mend (Stood t) (Stood t) (length t.whole) (length t.whole) (omega arith) (D 0) (E 0) (same 0).0 (same 0).1 answer t.own t.own one.0 (λ x s seen. seen) one.2),
  mended_each (λ i. D (suc i)) (λ i. E (suc i)) (λ i. same (suc i)) olds answers news others,
)

module _ {B : Type 0} (Served : Into Track B → Option LinkTold → LinkEnd → Into Track B → Option LinkTold → Type 0) (D E : ℕ → Type 0) (same : (i : ℕ) → (D i → E i) × (E i → D i)) where
  mends_same : (due : Bool) (a : Into Track B) (answers : List Answer) (b : Into Track B) → MendsIf Served (MendedInto D) due a answers b → MendsIf Served (MendedInto E) due a answers b
  mends_same true a answers b (moments, links, each) = (moments, links, mended_each D E same a.route.ports answers b.route.ports each)
  mends_same false a answers b none = none

  rounds_same : (made : List Round) (a b : Serving (Into Track B)) → ListenRounds Served (MendedInto D) made a b → ListenRounds Served (MendedInto E) made a b
  rounds_same [] a b none = none
  rounds_same (round ∷ made) a b (next, one, others) = (
    next,
    record {
      between = one.between;
      serves = one.serves;
      mends = mends_same (is_due a.due round.found) one.between.into round.mends next.into one.mends;
      heard = one.heard;
      due = one.due;
    },
    rounds_same made next b others,
  )

-- new passes, of ports
new_ports : {R A B : Type 0} (passes : List Known) (ports : List (EitherPort R A B)) → All IsNew passes → Zips (λ p port. pass_of port ≡ p) passes ports
    → AllByRecursion (λ (port : EitherPort R A B). IsNew (pass_of port)) ports
new_ports [] [] fresh same = tt
new_ports [] (port ∷ ports) fresh same = absurd same
new_ports (p ∷ passes) [] fresh same = absurd same
new_ports (p ∷ passes) (port ∷ ports) fresh same =
    (subst (λ (q : Known). IsNew q) (sym same.0) (All-head IsNew p passes fresh), new_ports passes ports (All-tail IsNew p passes fresh) same.1)

-- where only the last of some rounds may have been told to stop, none follows one that was
stops_last : (front : List Round) (last : Round) → AllByRecursion (λ (round : Round). IsStopped round.found → ⊥) front → StopsLast (front ++ last ∷ [])
stops_last [] last going = tt
stops_last (round ∷ []) last going = (going.0, tt)
stops_last (round ∷ next ∷ front) last going = (going.0, stops_last (next ∷ front) last going.1)

module _ {R A B : Type 0} (disk : A → Opening → List Step → Type 0) (memory : B → Opening → List Step → Type 0)
    {N C K : Type 0} (Means : Meaning K) (moments : C → Option (ℕ → ℕ)) (heard : N → Heard) (stands : N → Option Endpoint) where
  -- a listener's rounds are calls with its numbers in its channels' histories
  pub listen_told : (shares : List (EitherShared A B)) (homes : List Known) (job : ListenWorker Known N C K) (v w : ListenWorker (EitherPort R A B) N C K)
      (listener : N) → All IsNew job.ports.items → IsListenOpened shares job v → ListenRuns disk memory Means moments heard stands v w
      → IsListenEnded pass_of homes w listener → IsListenTold Means moments heard shares homes job listener
  listen_told shares homes job v w listener fresh opened ran gone =
      let saws = Saws {R = R} disk memory in
      let made = ran.rounds.front ++ ran.rounds.last ∷ [] in
      let cs = job.channels.items in
      let channels : w.channels.items ≡ cs = ap (λ (c : Vec ℕ Global). c.items) (ran.channels ∙ opened.channels) in
      let took : TookEach homes pass_of cs w.ports.items = subst (λ (l : List ℕ). TookEach homes pass_of l w.ports.items) channels gone.took in
      let got = listened_home pass_of saws LaterPort (either_face disk memory) IsOnDisk either_steady Means v.rules v.selector v.host made
      (serving moments heard v ran.before false) (serving moments heard w ran.after ran.due) homes cs (new_ports job.ports.items v.ports.items fresh opened.passes) took ran.rounds.made in
      let same = tracks_same homes cs job.ports.items v.ports.items opened.passes in
      record {
        built = ran.built;
        before = ran.before;
        chain = λ yes. subst (λ (plan : Vec (LinkPlan K) Global). AreBuilt plan.items ran.before) opened.plan (ran.chain yes);
        after = ran.after;
        later = moments w.clock;
        due = ran.due;
        made = made;
        going = stops_last ran.rounds.front ran.rounds.last ran.rounds.going;
        unserved = ran.rounds.unserved;
        rounds = λ share.
            rounds_same (Session job.rules Gave job.selector Means job.host) (IsDiskAt IsOnDisk v.ports.items) (IsDiskOf shares cs share) (disks_at shares share cs v.ports.items opened.kinds)
            made _ _
            (subst (λ (x : SessionRules × Selector × HostNames × List Track × C × N × N).
            ListenRounds (Session x.0 Gave x.1 Means x.2) (MendedInto (IsDiskAt IsOnDisk v.ports.items)) made
            (record { into = record { route = record { links = ran.before; ports = x.3 }; moments = moments x.4 }; heard = heard x.5; due = false })
            (record { into = record { route = record { links = ran.after; ports = map ended x.3 }; moments = moments w.clock }; heard = heard x.6; due = ran.due }))
            (λ i. (opened.rules i, opened.selector i, opened.host i, same i, opened.clock i, opened.listener i, sym gone.same i)) got);
      }

module _ {R A B : Type 0} (disk : A → Opening → List Step → Type 0) (memory : B → Opening → List Step → Type 0)
    {I O C K : Type 0} (Means : Meaning K) (moments : C → Option (ℕ → ℕ)) (talk : I → O → Talk) where
  -- the lines of a worker's session are calls with its numbers in its channels' histories
  pub line_told : (shares : List (EitherShared A B)) (homes : List Known) (job : LineWorker Known I O C K) (v w : LineWorker (EitherPort R A B) I O C K)
      (back : LineEnded I O) → All IsNew job.ports.items → IsLineOpened shares job v → LineRuns disk memory Means moments talk v w
      → IsLineEnded pass_of homes w back → IsLineTold Means moments talk shares homes job back
  line_told shares homes job v w back fresh opened ran gone =
      let saws = Saws {R = R} disk memory in
      let cs = job.channels.items in
      let channels : w.channels.items ≡ cs = ap (λ (c : Vec ℕ Global). c.items) (ran.channels ∙ opened.channels) in
      let took : TookEach homes pass_of cs w.ports.items = subst (λ (l : List ℕ). TookEach homes pass_of l w.ports.items) channels gone.took in
      let same = tracks_same homes cs job.ports.items v.ports.items opened.passes in
      record {
        built = ran.built;
        before = ran.before;
        chain = λ yes. subst (λ (plan : Vec (LinkPlan K) Global). AreBuilt plan.items ran.before) opened.plan (ran.chain yes);
        after = ran.after;
        later = told_by moments w.clock;
        due = ran.due;
        end = ran.end;
        noted = gone.end ∙ ran.noted;
        session =
            let D = IsDiskOf shares cs in
            let got = session_home pass_of saws LaterPort (either_face disk memory) IsOnDisk either_steady Means v.selector v.host D v.rules.max v.rules.ack ran.built ran.end
            (feeding moments v ran.before false) (feeding moments w ran.after ran.due) (talk v.input v.output) (talk w.input w.output) homes cs
            (λ share. are_disks pass_of saws LaterPort (either_face disk memory) IsOnDisk either_steady (D share) v.ports.items (disks_at shares share cs v.ports.items opened.kinds)) (new_ports job.ports.items v.ports.items fresh opened.passes) took ran.session in
            subst (λ (x : LineRules × Selector × HostNames × List Track × Option C × I × O × I × O).
            LineSession x.0.max x.0.ack (TakesTurn (TakesLine Gave x.1 Means x.2) (MendedOver shares cs)) ran.built ran.end
            (record { into = record { route = record { links = ran.before; ports = x.3 }; moments = told_by moments x.4 }; due = false })
            (record { into = record { route = record { links = ran.after; ports = map ended x.3 }; moments = told_by moments w.clock }; due = ran.due })
            (talk x.5 x.6) (talk x.7 x.8))
            (λ i. (opened.rules i, opened.selector i, opened.host i, same i, opened.clock i, opened.input i, opened.output i, sym gone.input i, sym gone.output i)) got;
      }
