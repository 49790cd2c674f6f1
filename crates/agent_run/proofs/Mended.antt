-- Channels that were not left broken.
use Rattle.std.proofs.Common.{◌≡◌, ◌∙◌, ◌<◌, ◌++◌, ℕ, List, Bool, true, false, Result, Ok, Err, length, get_or, ap, arith}
use Rattle.std.specs.List.{AllByRecursion}
use Rattle.std.proofs.lemmas.List.Elements.{All-from_recursion}
use Rattle.channel_face.specs.History.{Opening, Step, opening}
use Rattle.channel_face.specs.Keeps.{mended}
use Rattle.channel_face.specs.Machine.{Reopen, State}
use Rattle.channel_face.specs.declared.replies.OpenCause.{OpenCause}
use Rattle.channel_face.proofs.Adding.{state-push}
use Rattle.shared_channel.specs.Calls.{state_seen, step}
use Rattle.shared_channel.specs.Durables.{Reopens}
use Rattle.shared_channel.specs.Passes.{Known}
use Rattle.channel_lock.specs.Views.{View}
use Rattle.two_channels.specs.Shares.{IsDisk, MendsIn}
use Rattle.two_channels.specs.declared.shared.EitherShared.{EitherShared}
use Rattle.two_channels.specs.declared.shared.EitherShared.TheVariants as share
use Rattle.run_tracks.specs.Stops.{AreMended, IsMended}
use Rattle.agent_run.proofs.WellEnded.{IsWell}

module _ {A : Type 0} (disk : A → Opening → List Step → Type 0) (tells : A → Bool) (moment : A → ℕ) where
  -- a channel that a mend has opened again is not broken
  pub whole_reopened : (v w : View) (by : ℕ) (reply : Result (Unit {0}) OpenCause) → Ok true ≡ mended reply → Reopens disk tells moment v by reply w → (state_seen w).broken ≡ false
  whole_reopened v w by (Ok done) same did =
      let made = did.1.0.1.made in
      let last = step by (Reopen (Ok did.0)) (moment did.1.0.0) in
      ap (λ (h : List Step). (state_seen (record w { seen = h })).broken) made.2
      ∙ ap (λ (s : State). s.broken) (state-push (opening w.base) (v.seen ++ made.0) last)
  whole_reopened v w by (Err e) same did = absurd (cc)

  mend_whole : {B : Type 0} (s : EitherShared A B) (v w : View) (by : ℕ) (result : Result Bool OpenCause) → IsDisk s → IsWell result → MendsIn disk tells moment s v by result w → (state_seen w).broken ≡ false
  mend_whole (share.Disk s) v w by (Ok false) on well did = did.1
  mend_whole (share.Disk s) v w by (Ok true) on well did = whole_reopened v w by did.0 did.3 did.1
  mend_whole (share.Disk s) v w by (Err e) on well did = let same = well.1 in absurd (cc)
  mend_whole (share.Memory s) v w by result on well did = absurd on

  -- where each mend found its channel whole or left it so, no channel on a disk is broken
  pub whole_at : {B : Type 0} (shares : List (EitherShared A B)) (old new : List Known) (answers : List (Result Bool OpenCause)) → AreMended (IsMended disk tells moment) shares old answers new → AllByRecursion IsWell answers
      → (place : ℕ) (s : EitherShared A B) (d : Known) → place < length old → IsDisk (get_or shares place s) → (state_seen (get_or new place d).view).broken ≡ false
  whole_at shares old new answers did well place s d below on =
      let low : place < length answers = let e = did.answered in omega (arith, below, e) in
      mend_whole (get_or shares place s) (get_or old place d).view (get_or new place d).view (get_or old place d).number (get_or answers place (Ok false)) on
      (All-from_recursion IsWell answers well place (Ok false) low) (did.each place s d d (Ok false) below).mends
