-- What becomes of the passes at home after a run's workers came back is fair.
use Rattle.std.proofs.Common.{◌≡◌, ◌∷◌, [], ℕ, List, Result, Bool, true, refl, sym, ◌∙◌, ap, subst}
use Rattle.agent_end.specs.declared.draining.ChannelDrain.{ChannelDrain}
use Rattle.channel_face.specs.History.{Opening, Step, opening}
use Rattle.channel_face.specs.Keeps.{is_spent_check, is_spent_prune}
use Rattle.channel_face.specs.Machine.{State, Checkpoint, Prune}
use Rattle.channel_face.specs.declared.replies.OpenCause.{OpenCause}
use Rattle.channel_lock.specs.Calls.{calls_by, has}
use Rattle.channel_lock.specs.Views.{View}
use Rattle.channel_lock.proofs.Histories.{begins_self, fewer, has_only}
use Rattle.shared_channel.specs.Passes.{Known}
use Rattle.shared_channel.specs.Ports.{Later, own_calls}
use Rattle.sink_worker.specs.Rounds.{Taking, Told}
use Rattle.two_channels.specs.Shares.{KeepsIn, MendsIn}
use Rattle.two_channels.specs.declared.shared.EitherShared.{EitherShared}
use Rattle.two_channels.specs.declared.shared.EitherShared.TheVariants as share
use Rattle.run_tracks.specs.Drained.{IsDrainedInTrack, called_in}
use Rattle.run_tracks.specs.Homes.{Took}
use Rattle.run_tracks.specs.Tracks.{Track}
use Rattle.run_tracks.proofs.Tracking.{own_same}
use Rattle.sound_lines.proofs.Fair.{AreFairOwn}
use Rattle.sound_lines.proofs.Views.{Goes, IsFairIn, answered_goes, goes_on, mended_goes}
use Rattle.sound_lines.proofs.Workers.{drain_stays}

-- The pass has this number, and its calls are fair.
pub record IsFairHome (n : ℕ) (v : View) : Type 0 where
  pub mine : has v.numbers n ≡ true
  pub fair : IsFairIn n v

-- a number of the pass at home stays fair when the pass makes fair calls with one of its numbers
pub home_goes : (number n : ℕ) (v w : View) → Goes number v w → IsFairHome n v → IsFairHome n w
home_goes number n v w g is = record { mine = subst (λ (ns : List ℕ). has ns n ≡ true) (sym g.numbers) is.mine; fair = goes_on number n v w g is.mine is.fair }

-- a pass that took this one in has called nothing more with its numbers
pub took_fair : (n : ℕ) (home pass : Known) → Took home pass → IsFairHome n pass.view → IsFairHome n home.view
took_fair n home pass took is = record {
  mine = took.numbers n is.mine;
  fair = subst (AreFairOwn []) (sym same) is.fair;
}
  where
    only : calls_by (n ∷ []) home.view.seen ≡ calls_by (n ∷ []) pass.view.seen
    only = fewer pass.view.numbers (n ∷ []) pass.view.seen home.view.seen (λ k is_n. subst (λ (m : ℕ). has pass.view.numbers m ≡ true) (sym (has_only n k is_n)) is.mine) took.seen.0 took.seen.1

    same : own_calls (n ∷ []) (opening home.view.base) home.view.seen ≡ own_calls (n ∷ []) (opening pass.view.base) pass.view.seen
    same = ap (λ (o : Opening). own_calls (n ∷ []) (opening o) home.view.seen) took.base ∙ own_same (n ∷ []) (opening pass.view.base) pass.view.seen home.view.seen took.seen.0 only

-- a sink emptied its channel through the pass
pub drained_goes : {S : Type 0} (sink : Told S) (batch : ℕ) (end : ChannelDrain) (a b : Taking Known S) → has a.from.view.numbers a.from.number ≡ true
    → Later a.from b.from → IsDrainedInTrack sink batch end a b → Goes a.from.number a.from.view b.from.view
drained_goes sink batch end a b mine later track =
    let n = a.from.number in
    let v = a.from.view in
    let w = b.from.view in
    let bare : Track = record { start = w.base; whole = w.seen; number = n; own = [] } in
    let t : Track = record bare { own = called_in bare b.from } in
    let got = track t (record { has_it = subst (λ (ns : List ℕ). has ns n ≡ true) (sym later.numbers) mine; now = later.number; start = refl; own = refl; within = begins_self w.seen }) in
    record {
      base = later.base;
      passes = later.passes;
      numbers = later.numbers;
      rest = later.begins.0;
      whole = later.begins.1;
      under = later.under;
      fair = drain_stays sink batch end _ _ got.1;
    }

module _ {A B : Type 0} (disk : A → Opening → List Step → Type 0) (tells : A → Bool) (moment : A → ℕ) where
  -- a channel was mended through it
  pub mended_home : (s : EitherShared A B) (n by : ℕ) (v w : View) (result : Result Bool OpenCause) → has v.numbers by ≡ true → MendsIn disk tells moment s v by result w → IsFairHome n v → IsFairHome n w
  mended_home (share.Disk s) n by v w result mine is = home_goes by n v w (mended_goes by v w mine disk tells moment result is)
  mended_home (share.Memory s) n by v w result mine is = λ fair. subst (IsFairHome n) (sym is.0) fair

  -- a channel was kept through it
  pub kept_home : (laid : A → State → Type 0) (pruned : A → Type 0) (s : EitherShared A B) (n by : ℕ) (v w : View) → has v.numbers by ≡ true → KeepsIn disk tells moment laid pruned s v by w → IsFairHome n v → IsFairHome n w
  kept_home laid pruned (share.Disk s) n by v w mine is =
      let first = answered_goes by v is.between mine disk tells moment (is_spent_check is.check) (Checkpoint is.check) (λ t. tt) is.checks in
      let mine' : has is.between.numbers by ≡ true = subst (λ (ns : List ℕ). has ns by ≡ true) (sym first.numbers) mine in
      let last = answered_goes by is.between w mine' disk tells moment (is_spent_prune is.prune) (Prune is.prune) (λ t. tt) is.prunes in
      λ fair. home_goes by n is.between w last (home_goes by n v is.between first fair)
  kept_home laid pruned (share.Memory s) n by v w mine is = λ fair. subst (IsFairHome n) (sym is) fair
