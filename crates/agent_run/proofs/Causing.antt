-- The mends at the stop of a run, and what they leave in its channels.
use Rattle.std.proofs.Common.{◌≡◌, ◌∙◌, ◌<◌, ◌⊎◌, inl, inr, ℕ, zero, suc, List, [], ◌∷◌, Bool, true, false, Some, Result, Ok, Err, String, length, map, get_or, refl, sym, ap, subst, true≢false, arith, string_bytes}
use Rattle.std.proofs.lemmas.List.{get_or-map, get_or_default, length-map}
use Rattle.std.specs.declared.alloc.Global.{Global}
use Rattle.channel_face.specs.History.{Opening, Step}
use Rattle.channel_face.specs.Keeps.{is_spent_open}
use Rattle.channel_face.specs.Machine.{State}
use Rattle.channel_face.specs.declared.replies.Counts.{Counts}
use Rattle.channel_face.specs.declared.replies.OpenCause.{OpenCause}
use Rattle.channel_face.specs.declared.replies.OpenCause.TheVariants as cause
use Rattle.agent_plan.specs.declared.plan.ChannelKind.{ChannelKind}
use Rattle.agent_plan.specs.declared.plan.ChannelKind.TheVariants.{File, Memory as InMemory}
use Rattle.agent_plan.specs.declared.plan.ChannelPlan.{ChannelPlan}
use Rattle.shared_channel.specs.Passes.{Known}
use Rattle.sink_worker.specs.declared.worker.SinkWorker.{SinkWorker}
use Rattle.channel_lock.specs.Views.{View, saw}
use Rattle.two_channels.specs.Shares.{IsDisk, MendsIn}
use Rattle.two_channels.specs.declared.shared.EitherShared.{EitherShared}
use Rattle.channel_wishes.specs.Openings.{HostTold, IsOfKind}
use Rattle.channel_wishes.specs.Opened.{AreOpened}
use Rattle.channel_wishes.specs.declared.opened.OpenedChannel.{OpenedChannel}
use Rattle.channel_wishes.specs.declared.wish.ChannelPlace.{ChannelPlace}
use Rattle.channel_wishes.specs.declared.wish.ChannelPlace.TheVariants.{Memory, Folder}
use Rattle.channel_wishes.specs.declared.wish.ChannelWish.{ChannelWish}
use Rattle.agent_end.specs.Statuses.{mend_status}
use Rattle.agent_end.specs.declared.draining.ChannelDrain.{ChannelDrain}
use Rattle.run_tracks.specs.Closes.{IsClosed}
use Rattle.run_tracks.specs.Stops.{IsKept, IsMended}
use Rattle.agent_words.specs.Statuses.{cause_status}
use Rattle.agent_run.specs.Causes.{IsLeftBroken, IsSpent, SomeInFolder, SomeIsLeft}
use Rattle.agent_run.specs.Finals.{finals_of}
use Rattle.agent_run.specs.FoldersTold.{folder_of}
use Rattle.run_settling.specs.Settling.{AreSettled}
use Rattle.run_opening.specs.Wishes.{AreWishes, IsPlaceOf}
use Rattle.run_settling.specs.declared.at_home.AtHome.{AtHome}
use Rattle.run_settling.specs.declared.settling.Settled.{Settled}
use Rattle.agent_run.proofs.Began.{opened_many}
use Rattle.agent_run.proofs.Caused.{SomeMend, refused_status}
use Rattle.agent_run.proofs.Course.{there}
use Rattle.agent_run.proofs.Left.{at_rest, finals_are}
use Rattle.agent_run.proofs.Leftover.{Leaves, left_refused, refused_left}

-- ---- channels in folders are those on a disk

kind_at : {A B : Type 0} (wishes : List ChannelWish) (cs : List (OpenedChannel A B)) (a b : HostTold) → AreOpened wishes cs a b
    → (place : ℕ) (w : ChannelWish) (c : OpenedChannel A B) → place < length wishes → IsOfKind (get_or wishes place w).place (get_or cs place c).share
kind_at [] cs a b all place w c below = absurd (omega (arith, below))
kind_at (wish ∷ wishes) [] a b all place w c below = absurd all
kind_at (wish ∷ wishes) (x ∷ cs) a b all zero w c below = all.1.kind
kind_at (wish ∷ wishes) (x ∷ cs) a b all (suc place) w c below = kind_at wishes cs all.0 b all.2 place w c (omega (arith, below))

on_disk : {A B : Type 0} (kind : ChannelKind) (place : ChannelPlace) (s : EitherShared A B) (path : List ℕ) → IsPlaceOf kind place → IsOfKind place s → folder_of kind ≡ Some path → IsDisk s
on_disk InMemory place s path is of named = absurd (cc)
on_disk (File folder max_file interval on_close) Memory s path is of named = absurd is
on_disk (File folder max_file interval on_close) (Folder wanted) s path is of named = of

in_folder : {A B : Type 0} (kind : ChannelKind) (place : ChannelPlace) (s : EitherShared A B) → IsPlaceOf kind place → IsOfKind place s → IsDisk s → (path : List ℕ) × (folder_of kind ≡ Some path)
in_folder InMemory Memory s is of on = absurd (of on)
in_folder InMemory (Folder wanted) s is of on = absurd is
in_folder (File folder max_file interval on_close) Memory s is of on = absurd is
in_folder (File folder max_file interval on_close) (Folder wanted) s is of on = (string_bytes folder, refl)

-- A shared channel is on a disk exactly where that of the plan is in a folder.
pub record FoldersAre {A B : Type 0} (plans : List ChannelPlan) (shares : List (EitherShared A B)) : Type 0 where
  pub many : length shares ≡ length plans
  pub on : (place : ℕ) (plan : ChannelPlan) (s : EitherShared A B) (path : List ℕ) → place < length plans → folder_of (get_or plans place plan).kind ≡ Some path → IsDisk (get_or shares place s)
  pub of : (place : ℕ) (s : EitherShared A B) → place < length plans → IsDisk (get_or shares place s) → (path : List ℕ) × ((plan : ChannelPlan) → folder_of (get_or plans place plan).kind ≡ Some path)

-- of a plan's channels that were opened those are on a disk that the plan has in folders
pub folders_are : {A B : Type 0} (uses : List ℕ) (plans : List ChannelPlan) (wishes : List ChannelWish) (cs : List (OpenedChannel A B)) (a b : HostTold) (shares : List (EitherShared A B))
    → AreWishes uses plans wishes → AreOpened wishes cs a b → shares ≡ map (λ (c : OpenedChannel A B). c.share) cs → FoldersAre plans shares
folders_are {A} {B} uses plans wishes cs a b shares wanted opened same =
    let few : length cs ≡ length plans = opened_many wishes cs a b opened ∙ wanted.many in
    let share_is : (place : ℕ) (s : EitherShared A B) (c : OpenedChannel A B) → place < length plans → get_or shares place s ≡ (get_or cs place c).share =
    λ place s c below. ap (λ (l : List (EitherShared A B)). get_or l place s) same ∙ get_or-map (λ (o : OpenedChannel A B). o.share) cs place c s (omega (arith, below, few)) in
    let wide : (place : ℕ) → place < length plans → place < length wishes = λ place below. (let m = wanted.many in omega (arith, below, m)) in
    record {
      many = ap length same ∙ length-map cs (λ (c : OpenedChannel A B). c.share) ∙ few;
      on = λ place plan s path below named.
          let w = there wishes place (wide place below) in
          let c = there cs place (omega (arith, below, few)) in
          subst IsDisk (sym (share_is place s c below))
          (on_disk (get_or plans place plan).kind (get_or wishes place w).place (get_or cs place c).share path (wanted.each place plan w below).0.place (kind_at wishes cs a b opened place w c (wide place below)) named);
      of = λ place s below on.
          let w = there wishes place (wide place below) in
          let c = there cs place (omega (arith, below, few)) in
          let plan = there plans place below in
          let found = in_folder (get_or plans place plan).kind (get_or wishes place w).place (get_or cs place c).share (wanted.each place plan w below).0.place (kind_at wishes cs a b opened place w c (wide place below))
          (subst IsDisk (share_is place s c below) on) in
          (found.0, λ other. ap (λ (p : ChannelPlan). folder_of p.kind) (get_or_default plans place other plan below) ∙ found.1);
    }

-- ---- what is so of all calls of some channel

-- what is so of some channel in a folder has what follows of it
pub in_some : {P Q : View → Type 0} (plans : List ChannelPlan) (finals : List Known) → ((v : View) → P v → Q v) → SomeInFolder P plans finals → SomeInFolder Q plans finals
in_some plans finals step some = record {
  place = some.place;
  below = some.below;
  path = some.path;
  in_folder = some.in_folder;
  is = λ final. step (get_or finals some.place final).view (some.is final);
}

-- the cause of a mend that was refused
mend_cause : (m : Result Bool OpenCause) (status : ℕ) → mend_status m ≡ status → (status ≡ 0 → ⊥) → (c : OpenCause) × (m ≡ Err c) × (cause_status c ≡ status)
mend_cause (Ok mended) status is not = absurd (not (sym is))
mend_cause (Err c) status is not = (c, refl, sym (refused_status c) ∙ is)

-- only the last of causes leaves no call
spent_status : (c : OpenCause) → is_spent_open (Err c) ≡ true → cause_status c ≡ 4
spent_status cause.DiskFault is = absurd (true≢false (sym is))
spent_status cause.NoMemory is = absurd (true≢false (sym is))
spent_status (cause.BadCheck file at) is = refl
spent_status (cause.BadLog file at) is = refl
spent_status (cause.OverCapacity count) is = refl
spent_status (cause.Spent counter) is = refl

-- a pass at home, once it was counted and closed
abbrev closed_view : View → View
closed_view v = saw (saw v v.seen) v.seen

module _ {A B S C : Type 0} (Drained : SinkWorker AtHome S C → List Known → ChannelDrain → S → List Known → Type 0)
    (disk : A → Opening → List Step → Type 0) (tells : A → Bool) (moment : A → ℕ) (laid : A → State → Type 0) (pruned : A → Type 0) (memory : B → Opening → List Step → Type 0) (tells' : B → Bool)
    (plans : List ChannelPlan) (shares : List (EitherShared A B)) (homes : List Known) (workers : List (SinkWorker AtHome S C)) (closes : List Bool) (names : List (String Global × Counts)) (settled : Settled S A B)
    (is : AreSettled Drained (IsKept disk tells moment laid pruned) (IsMended disk tells moment) (IsClosed disk tells memory tells') shares homes workers closes names settled)
    (are : FoldersAre plans shares) (many : length homes ≡ length plans) (named : length names ≡ length homes) where
  drained_below : (place : ℕ) → place < length plans → place < length is.drained
  drained_below place below = let e = is.goes_on.as_many in omega (arith, below, e, many)

  kept_below : (place : ℕ) → place < length plans → place < length is.kept
  kept_below place below = let e = is.keeps.as_many in let d = drained_below place below in omega (arith, d, e)

  -- the pass that came back is that which was mended
  final_is : (place : ℕ) (d : Known) → place < length plans → (get_or (finals_of settled) place d).view ≡ closed_view (get_or is.mended place d).view
  final_is place d below =
      let few = kept_below place below in
      let mid : place < length is.mended = let e = is.mends.as_many in omega (arith, few, e) in
      let low : place < length is.counted = let e = is.counts.as_many in omega (arith, mid, e) in
      let name = there names place (omega (arith, below, many, named)) in
      ap (λ (l : List Known). (get_or l place d).view) (finals_are disk tells memory tells' shares is.counted settled.closed.items is.closed)
      ∙ ap (λ (p : Known). p.view) (get_or-map at_rest is.counted place d d low)
      ∙ ap (λ (p : Known). (at_rest p).view) (is.counts.each place d d name name mid).pass

  -- a mend at the stop
  mend_at : (place : ℕ) (s : EitherShared A B) (d : Known) (a : Result Bool OpenCause) → place < length plans
      → IsMended disk tells moment (get_or shares place s) (get_or is.kept place d) (get_or settled.mends.items place a) (get_or is.mended place d)
  mend_at place s d a below = is.mends.each place s d d a (kept_below place below)

  -- one that was refused left its channel so
  leaves_at : (place : ℕ) (s : EitherShared A B) (d : Known) (c : OpenCause) → place < length plans → get_or settled.mends.items place (Ok false) ≡ Err c
      → IsDisk (get_or shares place s) × Leaves c (get_or is.mended place d).view
  leaves_at place s d c below refused =
      let did = mend_at place s d (Ok false) below in
      refused_left disk tells moment (get_or shares place s) (get_or is.kept place d).view (get_or is.mended place d).view (get_or is.kept place d).number c
      (subst (λ (r : Result Bool OpenCause). MendsIn disk tells moment (get_or shares place s) (get_or is.kept place d).view (get_or is.kept place d).number r (get_or is.mended place d).view) refused did.mends)

  -- so the channel is left broken, or no more of its calls are counted
  pub some_left : (status : ℕ) → (status ≡ 0 → ⊥) → SomeMend status settled.mends.items
      → SomeIsLeft (λ c. cause_status c ≡ status) plans (finals_of settled) ⊎ ((status ≡ 4) × SomeInFolder IsSpent plans (finals_of settled))
  some_left status not some =
      let below : some.place < length plans = let b = some.below in let e = is.mends.answered in let k = is.keeps.as_many in let g = is.goes_on.as_many in omega (arith, b, e, k, g, many) in
      let why = mend_cause (get_or settled.mends.items some.place (Ok false)) status (some.here (Ok false)) not in
      let s = there shares some.place (let e = are.many in omega (arith, below, e)) in
      let d = there homes some.place (omega (arith, below, many)) in
      let folder = are.of some.place s below (leaves_at some.place s d why.0 below why.1).0 in
      by why.0 why.2 (is_spent_open (Err why.0)) refl below s folder.0 folder.1 (λ p. (leaves_at some.place s p why.0 below why.1).1)
    where
      by : (c : OpenCause) → cause_status c ≡ status → (spent : Bool) → is_spent_open (Err c) ≡ spent → some.place < length plans → EitherShared A B
          → (path : List ℕ) → ((plan : ChannelPlan) → folder_of (get_or plans some.place plan).kind ≡ Some path) → ((d : Known) → Leaves c (get_or is.mended some.place d).view)
          → SomeIsLeft (λ c. cause_status c ≡ status) plans (finals_of settled) ⊎ ((status ≡ 4) × SomeInFolder IsSpent plans (finals_of settled))
      by c such true spent below s path folder leaves = inr (
        sym such ∙ spent_status c spent,
        record {
          place = some.place;
          below = below;
          path = path;
          in_folder = folder;
          is = λ final.
              let left = (leaves final).spent spent in
              subst IsSpent (sym (final_is some.place final below)) (record { many = left.many; broken = left.broken });
        },
      )
      by c such false made below s path folder leaves = inl (record {
        place = some.place;
        below = below;
        path = path;
        in_folder = folder;
        is = λ final.
            let left = (leaves final).made made in (
              c,
              such,
              subst (IsLeftBroken c) (sym (final_is some.place final below))
                  (record { front = left.front; last = left.last; whole = left.whole; refused = left.refused; broken = left.broken }),
            );
      })

  -- where a channel is left broken for what its folder holds, its mend has the status 4
  pub left_some : SomeIsLeft (λ c. cause_status c ≡ 4) plans (finals_of settled) → SomeMend 4 settled.mends.items
  left_some some =
      let below = some.below in
      let s = there shares some.place (let e = are.many in omega (arith, below, e)) in
      let d = there homes some.place (omega (arith, below, many)) in
      let plan = there plans some.place below in
      let on = are.on some.place plan s some.path below (some.in_folder plan) in
      let last = some.is d in
      let was = subst (IsLeftBroken last.0) (final_is some.place d below) last.2 in
      let left : IsLeftBroken last.0 (get_or is.mended some.place d).view = record { front = was.front; last = was.last; whole = was.whole; refused = was.refused; broken = was.broken } in
      record {
        place = some.place;
        below = let e = is.mends.answered in let k = is.keeps.as_many in let g = is.goes_on.as_many in omega (arith, below, e, k, g, many);
        here = λ a.
            let got = left_refused disk tells moment (get_or shares some.place s) (get_or is.kept some.place d).view (get_or is.mended some.place d).view (get_or is.kept some.place d).number
            (get_or settled.mends.items some.place a) last.0 on (mend_at some.place s d a below).mends left in
            ap mend_status got.1 ∙ refused_status got.0 ∙ elim got.2 [
              | inl same ↦ ap cause_status same ∙ last.1
              | inr spent ↦ spent_status got.0 spent
            ];
      }
