-- What the worker of a channel on a disk did through its port is what it called in the whole history.
use Rattle.std.proofs.Common.{◌≡◌, ◌∙◌, ◌≤◌, ◌<◌, ◌++◌, ℕ, List, [], ◌∷◌, All, length, Bool, true, false, Result, get_or, refl, sym, ap, subst, arith}
use Rattle.std.proofs.lemmas.List.Elements.{All-cons, All-head, All-nil, All-tail}
use Rattle.channel_face.specs.Faces.{IsMade, Own}
use Rattle.channel_face.specs.History.{Opening, Step}
use Rattle.channel_face.specs.Keeps.{is_spent_check, is_spent_prune}
use Rattle.channel_face.specs.Machine.{Call, Checkpoint, Prune, State}
use Rattle.channel_face.specs.declared.replies.CheckRefused.{CheckRefused}
use Rattle.channel_face.specs.declared.replies.OpenCause.{OpenCause}
use Rattle.channel_face.specs.declared.replies.PruneRefused.{PruneRefused}
use Rattle.keep_worker.specs.Answers.{needs_mend}
use Rattle.keep_worker.specs.Rounds.{Checks, Face, KeepsBy, Mends, MendsIf, Prunes, RoundBy, RoundsBy, face as keep_face}
use Rattle.keep_worker.specs.Workers.{KeepRan}
use Rattle.keep_worker.specs.declared.keeping.Upkeep.{Upkeep}
use Rattle.keep_worker.specs.declared.worker.KeepWorker.{KeepWorker}
use Rattle.shared_channel.specs.Passes.{Known}
use Rattle.shared_channel.specs.Ports.{AreOwned, Later, later_none, later_then, owned}
use Rattle.two_channels.specs.Ports.{IsOnDisk, LaterPort, SawIn, own_of, pass_of, seen_of}
use Rattle.two_channels.specs.Shares.{IsDisk}
use Rattle.two_channels.specs.declared.port.EitherPort.{EitherPort}
use Rattle.two_channels.specs.declared.shared.EitherShared.{EitherShared}
use Rattle.run_tracks.specs.Homes.{Took}
use Rattle.run_tracks.specs.Listening.{MendedPort}
use Rattle.run_tracks.specs.Places.{Zips}
use Rattle.run_tracks.specs.Told.{IsFace, IsNew, IsSteady, Matches}
use Rattle.run_tracks.specs.Tracks.{Stood, Track, ended, track_of}
use Rattle.run_tracks.proofs.Moving.{mend}
use Rattle.run_tracks.proofs.Telling.{either_face, either_steady}
use Rattle.run_tracks.proofs.Tracking.{back, matches_back, matches_home, prefix_short, stood}
use Rattle.run_settling.specs.Draining.{EachGoesOn}
use Rattle.run_working.specs.Ends.{IsKeepEnded}
use Rattle.run_working.specs.Histories.{Checked, IsKeepTold, Pruned}
use Rattle.run_working.specs.Opened.{IsKeepOpened}
use Rattle.run_working.specs.Wholes.{StaysSilent}
use Rattle.run_working.proofs.Silence.{took_silent}

-- a call that was made or spent, of more that was seen
made_more : (seen seen' : ℕ) → seen ≤ seen' → (spent : Bool) (call : Call) (s : State) (own : List Own) → IsMade seen spent call s own → IsMade seen' spent call s own
made_more seen seen' more false call s own m = m
made_more seen seen' more true call s own m = (m.0, let b = m.1 in omega (arith, more, b))

module _ {F : Type 0} (pass : F → Known) (saw : F → List Own → State → Type 0) (kept : F → F → Type 0) (face : IsFace pass saw kept)
    (on_disk laid pruned : F → Type 0) (steady : IsSteady kept on_disk) where
  -- what a port with this pass says of itself
  abbrev pub own_face : Face F
  own_face = keep_face (λ p. AreOwned (pass p).view) saw (λ p. length (pass p).view.seen) kept on_disk laid pruned

  abbrev pub FaceKeeps : F → Upkeep → F → Type 0
  FaceKeeps = KeepsBy (Checks own_face) (Prunes own_face) (Mends own_face)

  abbrev pub FaceMends : Bool → F → F → Type 0
  FaceMends = MendsIf (Checks own_face) (Prunes own_face) (Mends own_face)

  abbrev pub FaceRound : F → Upkeep → F → Type 0
  FaceRound = RoundBy (Checks own_face) (Prunes own_face) (Mends own_face)

  abbrev pub FaceRounds : List Upkeep → F → F → Type 0
  FaceRounds = RoundsBy (Checks own_face) (Prunes own_face) (Mends own_face)

  -- ---- the port is the same after them

  same_later : (a b : F) → b ≡ a → Later (pass a) (pass b)
  same_later a b same = subst (λ (x : F). Later (pass a) (pass x)) (sym same) (later_none (pass a))

  mend_later : (due : Bool) (a b : F) → FaceMends due a b → Later (pass a) (pass b)
  mend_later true a b did = face.laters a b did.1.same
  mend_later false a b same = same_later a b same

  round_later : (upkeep : Upkeep) (a b : F) → FaceRound a upkeep b → Later (pass a) (pass b)
  round_later upkeep a b (mid, (between, checks, prunes), mends) =
      later_then (pass a) (pass mid) (pass b)
      (later_then (pass a) (pass between) (pass mid) (face.laters a between checks.same) (face.laters between mid prunes.same))
      (mend_later (needs_mend upkeep.checked upkeep.pruned) mid b mends)

  -- after rounds of a keeper its pass is a later one of the same channel
  pub keeps_later : (upkeeps : List Upkeep) (a b : F) → FaceRounds upkeeps a b → Later (pass a) (pass b)
  keeps_later [] a b same = same_later a b same
  keeps_later (upkeep ∷ upkeeps) a b (next, one, others) =
      later_then (pass a) (pass next) (pass b) (round_later upkeep a next one) (keeps_later upkeeps next b others)

  -- ---- in a track

  check_in : (a b : F) (reply : Result (Unit {0}) CheckRefused) (t : Track) → Matches (pass b) t → Checks own_face a reply b
      → Matches (pass a) (back (pass a) t) × Checked (back (pass a) t) reply t
  check_in a b reply t m once =
      let p = pass a in
      let own = owned p.view in
      let at = once.calls p.view.base [] own (refl, refl, refl) in
      let all : own ++ at.0 ≡ t.own = at.1.2 ∙ m.own in (
        matches_back p (pass b) t (face.laters a b once.same) m,
        (
          at.0,
          ap (λ (l : List Own). record t { own = l }) (sym all),
          (at.2.0, made_more (length (pass b).view.seen) (length t.whole) (prefix_short (pass b).view.seen t.whole m.within) (is_spent_check reply) (Checkpoint reply) at.2.0 at.0 at.2.1),
        ),
      )

  prune_in : (a b : F) (reply : Result ℕ PruneRefused) (t : Track) → Matches (pass b) t → Prunes own_face a reply b
      → Matches (pass a) (back (pass a) t) × Pruned (back (pass a) t) reply t
  prune_in a b reply t m once =
      let p = pass a in
      let own = owned p.view in
      let at = once.calls p.view.base [] own (refl, refl, refl) in
      let all : own ++ at.0 ≡ t.own = at.1.2 ∙ m.own in (
        matches_back p (pass b) t (face.laters a b once.same) m,
        (
          at.0,
          ap (λ (l : List Own). record t { own = l }) (sym all),
          (at.2.0, made_more (length (pass b).view.seen) (length t.whole) (prefix_short (pass b).view.seen t.whole m.within) (is_spent_prune reply) (Prune reply) at.2.0 at.0 at.2.1),
        ),
      )

  -- no call
  none_in : (a b : F) (t : Track) → Matches (pass b) t → b ≡ a → Matches (pass a) (back (pass a) t) × (t ≡ back (pass a) t)
  none_in a b t m none =
      let here : Matches (pass a) t = subst (λ (x : F). Matches (pass x) t) none m in
      let is : back (pass a) t ≡ t = ap (λ (l : List Own). record t { own = l }) here.own in
      (subst (λ (u : Track). Matches (pass a) u) (sym is) here, sym is)

  module _ (D : Type 0) where
    -- it is on a disk exactly where D says so
    abbrev pub SameDisk : F → Type 0
    SameDisk a = (on_disk a → D) × (D → on_disk a)

    same_after : (a b : F) → kept a b → SameDisk a → SameDisk b
    same_after a b k same = let s = steady a b k in (λ x. same.0 (s.1 x), λ d. s.0 (same.1 d))

    mended_in : (a b : F) (result : Result Bool OpenCause) (t : Track) → Matches (pass b) t → SameDisk a → Mends own_face a result b
        → Matches (pass a) (back (pass a) t) × MendedPort D (back (pass a) t) result t
    mended_in a b result t m same once =
        let p = pass a in
        let own = owned p.view in
        let at = once.calls p.view.base [] own (refl, refl, refl) in
        let all : own ++ at.0 ≡ t.own = at.1.2 ∙ m.own in (
          matches_back p (pass b) t (face.laters a b once.same) m,
          (
            at.0,
            ap (λ (l : List Own). record t { own = l }) (sym all),
            mend (saw b) (Stood (back p t)) (length (pass b).view.seen) (length t.whole) (prefix_short (pass b).view.seen t.whole m.within) (on_disk a) D same.0 same.1 result own own at.0
                (λ x s seen. stood pass saw kept face b t m (own ++ x) s seen) at.2,
          ),
        )

    abbrev TrackMends : Bool → Track → Track → Type 0
    TrackMends = MendsIf Checked Pruned (MendedPort D)

    mend_in : (due : Bool) (a b : F) (t : Track) → Matches (pass b) t → SameDisk a → FaceMends due a b
        → Matches (pass a) (back (pass a) t) × TrackMends due (back (pass a) t) t
    mend_in true a b t m same did = let got = mended_in a b did.0 t m same did.1 in (got.0, (did.0, got.1))
    mend_in false a b t m same none = none_in a b t m none

    round_in : (upkeep : Upkeep) (a b : F) (t : Track) → Matches (pass b) t → SameDisk a → FaceRound a upkeep b
        → Matches (pass a) (back (pass a) t) × RoundBy Checked Pruned (MendedPort D) (back (pass a) t) upkeep t
    round_in upkeep a b t m same (mid, (between, checks, prunes), mends) =
        let on = same_after between mid prunes.same (same_after a between checks.same same) in
        let last = mend_in (needs_mend upkeep.checked upkeep.pruned) mid b t m on mends in
        let pruned_at = prune_in between mid upkeep.pruned (back (pass mid) t) last.0 prunes in
        let first = check_in a between upkeep.checked (back (pass between) t) pruned_at.0 checks in
        (first.0, (back (pass mid) t, (back (pass between) t, first.1, pruned_at.1), last.1))

    mend_same : (due : Bool) (a b : F) → FaceMends due a b → SameDisk a → SameDisk b
    mend_same true a b did same = same_after a b did.1.same same
    mend_same false a b none same = subst SameDisk (sym none) same

    round_same : (upkeep : Upkeep) (a b : F) → FaceRound a upkeep b → SameDisk a → SameDisk b
    round_same upkeep a b (mid, (between, checks, prunes), mends) same =
        mend_same (needs_mend upkeep.checked upkeep.pruned) mid b mends (same_after between mid prunes.same (same_after a between checks.same same))

    -- rounds that were made through a port are in its track
    pub keeps_in : (upkeeps : List Upkeep) (a b : F) (t : Track) → Matches (pass b) t → SameDisk a → FaceRounds upkeeps a b
        → Matches (pass a) (back (pass a) t) × RoundsBy Checked Pruned (MendedPort D) upkeeps (back (pass a) t) t
    keeps_in [] a b t m same none = none_in a b t m none
    keeps_in (upkeep ∷ upkeeps) a b t m same (next, one, others) =
        let later = keeps_in upkeeps next b t m (round_same upkeep a next one same) others in
        let first = round_in upkeep a next (back (pass next) t) later.0 same one in
        (first.0, (back (pass next) t, first.1, later.1))

-- ---- a worker

module _ {R A B C : Type 0} (disk : A → Opening → List Step → Type 0) (memory : B → Opening → List Step → Type 0) (laid pruned : EitherPort R A B → Type 0) where
  abbrev pub KeepRuns : KeepWorker (EitherPort R A B) C → KeepWorker (EitherPort R A B) C → Type 0
  KeepRuns old new = KeepRan (keep_face own_of (SawIn disk memory) seen_of LaterPort IsOnDisk laid pruned) old new

  module _ (shares : List (EitherShared A B)) (homes last : List Known) (on : EachGoesOn homes last) where
    keep_stays : (job : KeepWorker Known C) (v w : KeepWorker (EitherPort R A B) C) → IsNew job.port → StaysSilent job.channel job.port.number homes last
        → IsKeepOpened shares job v → KeepRuns v w → IsKeepEnded pass_of homes w → IsKeepTold shares last job
    keep_stays job v w fresh silent opened ran gone =
        let saws = SawIn {R = R} disk memory in
        let n = job.port.number in
        let later = keeps_later pass_of saws LaterPort (either_face disk memory) IsOnDisk laid pruned either_steady ran.upkeeps v.port w.port ran.rounds in
        let channel : w.channel ≡ job.channel = ran.channel ∙ opened.channel in
        let numbers : (pass_of w.port).view.numbers ≡ n ∷ [] = later.numbers ∙ ap (λ (p : Known). p.view.numbers) opened.pass ∙ fresh.0 in
        let none : owned (pass_of v.port).view ≡ [] = ap (λ (p : Known). owned p.view) opened.pass ∙ fresh.1 in
        let below : job.channel < length homes = subst (λ (i : ℕ). i < length homes) channel gone.0 in
        record {
          upkeeps = ran.upkeeps;
          rounds = λ s d.
              let home = get_or homes job.channel d in
              let final = get_or last job.channel d in
              let took : Took home (pass_of w.port) = subst (λ (i : ℕ). Took (get_or homes i d) (pass_of w.port)) channel (gone.1 d) in
              let stays = took_silent home final (pass_of w.port) n numbers (on.each job.channel d below) (silent d) took in
              let t = ended (track_of final n) in
              let D = IsDisk (get_or shares job.channel s) in
              let same = opened.kind s in
              let got = keeps_in pass_of saws LaterPort (either_face disk memory) IsOnDisk laid pruned either_steady D ran.upkeeps v.port w.port t
              (matches_home final (pass_of w.port) n numbers stays) (same.1, same.0) ran.rounds in
              subst (λ (l : List Own). RoundsBy Checked Pruned (MendedPort D) ran.upkeeps (record t { own = l }) t) none got.1;
        }

    -- each of them
    pub keeps_stay : (jobs : List (KeepWorker Known C)) (vs ws : List (KeepWorker (EitherPort R A B) C)) → All (λ (k : KeepWorker Known C). IsNew k.port) jobs
        → All (λ (k : KeepWorker Known C). StaysSilent k.channel k.port.number homes last) jobs → Zips (IsKeepOpened shares) jobs vs → Zips KeepRuns vs ws → All (IsKeepEnded pass_of homes) ws
        → All (IsKeepTold shares last) jobs
    keeps_stay [] [] [] fresh silent opened ran gone = All-nil (IsKeepTold shares last)
    keeps_stay [] [] (w ∷ ws) fresh silent opened ran gone = absurd ran
    keeps_stay [] (v ∷ vs) ws fresh silent opened ran gone = absurd opened
    keeps_stay (job ∷ jobs) [] ws fresh silent opened ran gone = absurd opened
    keeps_stay (job ∷ jobs) (v ∷ vs) [] fresh silent opened ran gone = absurd ran
    keeps_stay (job ∷ jobs) (v ∷ vs) (w ∷ ws) fresh silent opened ran gone =
        let New = λ (k : KeepWorker Known C). IsNew k.port in
        let Silent = λ (k : KeepWorker Known C). StaysSilent k.channel k.port.number homes last in
        let Gone = IsKeepEnded pass_of homes in
        All-cons (IsKeepTold shares last) job jobs
        (keep_stays job v w (All-head New job jobs fresh) (All-head Silent job jobs silent) opened.0 ran.0 (All-head Gone w ws gone))
        (keeps_stay jobs vs ws (All-tail New job jobs fresh) (All-tail Silent job jobs silent) opened.1 ran.1 (All-tail Gone w ws gone))
