-- What the closed channels of a run leave in their folders.
use Rattle.std.proofs.Common.{◌≡◌, ◌∙◌, ◌<◌, ◌++◌, ℕ, zero, suc, List, [], ◌∷◌, Bool, true, false, cond, Option, length, map, get_or, refl, sym, ap, subst, arith, bytes_eq, string_bytes}
use Rattle.std.proofs.lemmas.Slice.Eq.{bytes_eq-Decides}
use Rattle.channel_face.specs.History.{IsRun, Opening, Step, opening}
use Rattle.flume_host.specs.Told.{Told}
use Rattle.file_channel.specs.Stands.{FileState}
use Rattle.shared_channel.specs.Calls.{IsSeen}
use Rattle.shared_channel.specs.Counting.{StandsAgreeing}
use Rattle.shared_channel.specs.Passes.{Known}
use Rattle.shared_channel.specs.declared.pass.Closed.{Closed}
use Rattle.channel_lock.specs.Calls.{Below}
use Rattle.channel_lock.specs.Views.{View, saw}
use Rattle.two_channels.specs.Shares.{IsDisk, pass_of}
use Rattle.two_channels.specs.declared.shared.EitherClosed.{EitherClosed}
use Rattle.two_channels.specs.declared.shared.EitherClosed.TheVariants as closed
use Rattle.two_channels.specs.declared.shared.EitherShared.{EitherShared}
use Rattle.two_channels.specs.declared.shared.EitherShared.TheVariants as share
use Rattle.run_tracks.specs.Closes.{AreClosed, IsClosed}
use Rattle.agent_channels.specs.Closings.{DiskBack, back_of, backs_of, told_of}
use Rattle.channel_wishes.specs.declared.wish.ChannelPlace.{ChannelPlace}
use Rattle.channel_wishes.specs.declared.wish.ChannelPlace.TheVariants.{Memory, Folder}
use Rattle.channel_wishes.specs.declared.wish.ChannelWish.{ChannelWish}
use Rattle.agent_run.proofs.Began.{IsPlacedIn}

module _ {D : Type 0} (told : D → Option Told) (faults : D → ℕ) where
  -- a disk that comes back for another folder says nothing of this one
  skip : {B : Type 0} (place : ChannelPlace) (e : EitherClosed (D × FileState) B) (rest : List DiskBack) (path : List ℕ) (before : Option Told) → (IsPlacedIn place path → ⊥)
      → told_of (back_of told faults place e ++ rest) path before ≡ told_of rest path before
  skip Memory (closed.Disk c) rest path before other = refl
  skip Memory (closed.Memory c) rest path before other = refl
  skip (Folder folder) (closed.Disk c) rest path before other = by (bytes_eq (string_bytes folder) path) refl
    where
      by : (b : Bool) → bytes_eq (string_bytes folder) path ≡ b → cond b (told c.channel.0) (told_of rest path before) ≡ told_of rest path before
      by true is = absurd (other ((bytes_eq-Decides (string_bytes folder) path).0 is))
      by false is = refl
  skip (Folder folder) (closed.Memory c) rest path before other = refl

  told_here : (B : Type 0) (place : ChannelPlace) (c : Closed (D × FileState)) (rest : List DiskBack) (path : List ℕ) (before : Option Told) → IsPlacedIn place path
      → told_of (back_of {B = B} told faults place (closed.Disk c) ++ rest) path before ≡ told c.channel.0
  told_here B Memory c rest path before placed = absurd placed
  told_here B (Folder folder) c rest path before placed =
      ap (λ (b : Bool). cond b (told c.channel.0) (told_of rest path before)) ((bytes_eq-Decides (string_bytes folder) path).1 placed)

  -- What is told of a folder once the disks came back is what the disk of the first channel shows that was wanted in it.
  pub told_at : {B : Type 0} (wishes : List ChannelWish) (ends : List (EitherClosed (D × FileState) B)) (place : ℕ) (w : ChannelWish) (c : Closed (D × FileState)) (path : List ℕ) (before : Option Told)
      → place < length wishes → place < length ends → ((e : EitherClosed (D × FileState) B) → get_or ends place e ≡ closed.Disk c) → IsPlacedIn (get_or wishes place w).place path
      → ((i : ℕ) → i < place → IsPlacedIn (get_or wishes i w).place path → ⊥) → told_of (backs_of told faults wishes ends) path before ≡ told c.channel.0
  told_at {B} [] ends place w c path before low under is placed first = absurd (omega (arith, low))
  told_at {B} (wish ∷ wishes) [] place w c path before low under is placed first = absurd (omega (arith, under))
  told_at {B} (wish ∷ wishes) (e ∷ ends) zero w c path before low under is placed first =
      ap (λ (x : EitherClosed (D × FileState) B). told_of (back_of told faults wish.place x ++ backs_of told faults wishes ends) path before) (is e)
      ∙ told_here B wish.place c (backs_of told faults wishes ends) path before placed
  told_at {B} (wish ∷ wishes) (e ∷ ends) (suc place) w c path before low under is placed first =
      skip wish.place e (backs_of told faults wishes ends) path before (first 0 (omega arith))
      ∙ told_at wishes ends place w c path before (omega (arith, low)) (omega (arith, under)) is placed (λ i lower. first (suc i) (omega (arith, lower)))

-- ---- what is so of each closed channel

-- as many channels were closed as there are passes at home
pub closed_long : {S E : Type 0} (Is : S → Known → E → Type 0) (ss : List S) (hs : List Known) (es : List E) → AreClosed Is ss hs es → length es ≡ length hs
closed_long Is [] [] [] all = refl
closed_long Is [] [] (y ∷ es) all = absurd all
closed_long Is [] (p ∷ hs) es all = absurd all
closed_long Is (x ∷ ss) [] es all = absurd all
closed_long Is (x ∷ ss) (p ∷ hs) [] all = absurd all
closed_long Is (x ∷ ss) (p ∷ hs) (y ∷ es) all = ap suc (closed_long Is ss hs es all.1)

-- what is so of each channel that was closed is so of that at a place
pub closed_at : {S E : Type 0} (Is : S → Known → E → Type 0) (ss : List S) (hs : List Known) (es : List E) → AreClosed Is ss hs es → (place : ℕ) (s : S) (h : Known) (e : E) → place < length hs
    → Is (get_or ss place s) (get_or hs place h) (get_or es place e)
closed_at Is ss [] es all place s h e below = absurd (omega (arith, below))
closed_at Is [] (x ∷ hs) es all place s h e below = absurd all
closed_at Is (y ∷ ss) (x ∷ hs) [] all place s h e below = absurd all
closed_at Is (y ∷ ss) (x ∷ hs) (z ∷ es) all zero s h e below = all.0
closed_at Is (y ∷ ss) (x ∷ hs) (z ∷ es) all (suc place) s h e below = closed_at Is ss hs es all.1 place s h e (omega (arith, below))

-- the pass as it is once its channel is closed
abbrev pub at_rest : Known → Known
at_rest p = record p { view = saw p.view p.view.seen }

seen_run : {C : Type 0} (stands : C → Opening → List Step → Type 0) (tells : C → Bool) (c : C) (w v : View) → w ≡ saw v v.seen → IsSeen stands tells c w → IsRun v.base.tells (opening v.base) v.seen
seen_run stands tells c w v same is =
    subst (λ (x : View). IsRun x.base.tells (opening x.base) x.seen) same (subst (λ (b : Bool). IsRun b (opening w.base) w.seen) (sym is.same) is.run)

module _ {A B : Type 0} (disk : A → Opening → List Step → Type 0) (tells : A → Bool) (memory : B → Opening → List Step → Type 0) (tells' : B → Bool) where
  -- the passes that came back are those at home, as they are once their channels are closed
  pub finals_are : (ss : List (EitherShared A B)) (hs : List Known) (es : List (EitherClosed A B)) → AreClosed (IsClosed disk tells memory tells') ss hs es → map pass_of es ≡ map at_rest hs
  finals_are [] [] [] all = refl
  finals_are [] [] (e ∷ es) all = absurd all
  finals_are [] (h ∷ hs) es all = absurd all
  finals_are (s ∷ ss) [] es all = absurd all
  finals_are (s ∷ ss) (h ∷ hs) [] all = absurd all
  finals_are (s ∷ ss) (h ∷ hs) (e ∷ es) all =
      let is = all.0 in
      let rest = finals_are ss hs es all.1 in
      λ i. record { table_id = is.table i; number = is.number i; view = is.view i } ∷ rest i

  -- A closed channel on a disk stands for all calls, which were answered as the machine answers them.
  pub record IsDiskLeft (home : Known) (e : EitherClosed A B) : Type 0 where
    pub of : Closed A
    pub same : e ≡ closed.Disk of
    pub stands : StandsAgreeing disk of.channel home.view.base home.view.seen
    pub run : IsRun (tells of.channel) (opening home.view.base) home.view.seen

  -- a channel on a disk that was closed stands for all its calls, answered as the machine answers them
  pub disk_left : (s : EitherShared A B) (home : Known) (e : EitherClosed A B) → IsDisk s → IsClosed disk tells memory tells' s home e → IsDiskLeft home e
  disk_left (share.Disk s) home (closed.Disk c) on is = record {
    of = c;
    same = refl;
    stands = is.channel;
    run = subst (λ (v : View). IsRun (tells c.channel) (opening v.base) v.seen) is.view is.left.seen.run;
  }
  disk_left (share.Disk s) home (closed.Memory c) on is = absurd is.channel
  disk_left (share.Memory s) home e on is = absurd on

  -- in the end each call of a channel was answered as the machine answers it, and was made by one of its passes
  pub left_run : (s : EitherShared A B) (home : Known) (e : EitherClosed A B) → IsClosed disk tells memory tells' s home e → IsRun home.view.base.tells (opening home.view.base) home.view.seen
  left_run (share.Disk s) home (closed.Disk c) is = seen_run disk tells c.channel c.pass.view home.view is.view is.left.seen
  left_run (share.Disk s) home (closed.Memory c) is = absurd is.channel
  left_run (share.Memory s) home (closed.Disk c) is = absurd is.channel
  left_run (share.Memory s) home (closed.Memory c) is = seen_run memory tells' c.channel c.pass.view home.view is.view is.left.seen

  -- each call of a channel that was closed was made by one of its passes
  pub left_below : (s : EitherShared A B) (home : Known) (e : EitherClosed A B) → IsClosed disk tells memory tells' s home e → Below home.view.passes home.view.seen
  left_below (share.Disk s) home (closed.Disk c) is = subst (λ (v : View). Below home.view.passes v.seen) is.view is.left.made.4
  left_below (share.Disk s) home (closed.Memory c) is = absurd is.channel
  left_below (share.Memory s) home (closed.Disk c) is = absurd is.channel
  left_below (share.Memory s) home (closed.Memory c) is = subst (λ (v : View). Below home.view.passes v.seen) is.view is.left.made.4
