-- Channels that are kept, mended and counted once a run has stopped.
use Rattle.std.specs.Prelude.{◌≡◌, ◌<◌, ℕ, List, length, slice_index_or, Bool, true, false, Result, String}
use Rattle.std.specs.declared.alloc.Global.{Global}
use Rattle.channel_face.specs.Counters.{counts_of}
use Rattle.channel_face.specs.History.{Opening, Step}
use Rattle.channel_face.specs.Machine.{State}
use Rattle.channel_face.specs.declared.replies.Counts.{Counts}
use Rattle.channel_face.specs.declared.replies.OpenCause.{OpenCause}
use Rattle.shared_channel.specs.Passes.{Known}
use Rattle.shared_channel.specs.Ports.{Later}
use Rattle.channel_lock.specs.Views.{saw}
use Rattle.two_channels.specs.Shares.{KeepsIn, MendsIn}
use Rattle.two_channels.specs.declared.shared.EitherShared.{EitherShared}

-- A checkpoint and a removal of old files were asked for through the pass at home, which keeps its number.
pub record IsKept {A B : Type 0} (disk : A → Opening → List Step → Type 0) (tells : A → Bool) (moment : A → ℕ) (laid : A → State → Type 0)
    (pruned : A → Type 0) (share : EitherShared A B) (home new : Known) : Type 0 where
  pub keeps : KeepsIn disk tells moment laid pruned share home.view home.number new.view
  pub later : Later home new

-- where this is true; else the pass is as it was
abbrev pub KeptIf : Bool → (Known → Known → Type 0) → Known → Known → Type 0
KeptIf true Kept old new = Kept old new
KeptIf false Kept old new = new ≡ old

-- each channel of which it is said so, in order
pub record AreKept {S : Type 0} (Kept : S → Known → Known → Type 0) (shares : List S) (closes : List Bool) (old new : List Known) : Type 0 where
  pub as_many : length new ≡ length old
  pub each : (place : ℕ) (s : S) (b : Bool) (p q : Known) → place < length old
      → KeptIf (slice_index_or closes place b) (Kept (slice_index_or shares place s)) (slice_index_or old place p) (slice_index_or new place q)

-- The channel was mended through the pass at home, which keeps its number.
pub record IsMended {A B : Type 0} (disk : A → Opening → List Step → Type 0) (tells : A → Bool) (moment : A → ℕ) (share : EitherShared A B)
    (home : Known) (answer : Result Bool OpenCause) (new : Known) : Type 0 where
  pub mends : MendsIn disk tells moment share home.view home.number answer new.view
  pub later : Later home new

-- each of them, in order
pub record AreMended {S : Type 0} (Mended : S → Known → Result Bool OpenCause → Known → Type 0) (shares : List S) (old : List Known)
    (answers : List (Result Bool OpenCause)) (new : List Known) : Type 0 where
  pub as_many : length new ≡ length old
  pub answered : length answers ≡ length old
  pub each : (place : ℕ) (s : S) (p q : Known) (a : Result Bool OpenCause) → place < length old
      → Mended (slice_index_or shares place s) (slice_index_or old place p) (slice_index_or answers place a) (slice_index_or new place q)

-- Nothing was called, the name is the same, and the counts are those of all that the pass at home has seen.
pub record IsCounted (home : Known) (before after : String Global × Counts) (new : Known) : Type 0 where
  pub pass : new ≡ record home { view = saw home.view home.view.seen }
  pub name : after.0 ≡ before.0
  pub counts : after.1 ≡ counts_of home.view.base home.view.seen

-- each of them, in order
pub record AreCounted (old : List Known) (before after : List (String Global × Counts)) (new : List Known) : Type 0 where
  pub as_many : length new ≡ length old
  pub noted : length after ≡ length before
  pub each : (place : ℕ) (p q : Known) (b c : String Global × Counts) → place < length old
      → IsCounted (slice_index_or old place p) (slice_index_or before place b) (slice_index_or after place c) (slice_index_or new place q)
