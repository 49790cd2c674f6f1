-- The calls with a number of the pass at home of a run's channel are fair, up to the close.
use Rattle.std.proofs.Common.{◌≡◌, ◌<◌, ℕ, List, [], ◌∷◌, Bool, true, false, Option, Result, String, length, get_or, sym, subst}
use Rattle.std.specs.List.{AllByRecursion}
use Rattle.std.specs.declared.alloc.Global.{Global}
use mathlib.Core.Logic.{dite}
use native.Mathlib.Decide.{ℕ_discrete}
use Rattle.agent_end.specs.declared.draining.ChannelDrain.{ChannelDrain}
use Rattle.channel_face.specs.History.{Opening, Step}
use Rattle.channel_face.specs.Machine.{State}
use Rattle.channel_face.specs.declared.replies.Counts.{Counts}
use Rattle.channel_face.specs.declared.replies.OpenCause.{OpenCause}
use Rattle.channel_lock.specs.Calls.{has}
use Rattle.channel_lock.specs.Views.{saw}
use Rattle.shared_channel.specs.Passes.{Known}
use Rattle.sink_worker.specs.Rounds.{Told}
use Rattle.sink_worker.specs.declared.worker.SinkWorker.{SinkWorker}
use Rattle.two_channels.specs.declared.shared.EitherShared.{EitherShared}
use Rattle.run_tracks.specs.Dealt.{HasNumber}
use Rattle.run_tracks.specs.Homes.{EachTook}
use Rattle.run_tracks.specs.Stops.{AreCounted, AreKept, AreMended, IsKept, IsMended, KeptIf}
use Rattle.sound_lines.proofs.Homes.{IsFairHome, drained_goes, home_goes, kept_home, mended_home, took_fair}
use Rattle.run_settling.specs.Draining.{AreDrained, IsDrainedAt, IsDrainedHome, under}
use Rattle.run_settling.specs.declared.at_home.AtHome.{AtHome}

-- The pass carries a number of its own, and its calls with this one are fair.
pub record IsFairPass (n : ℕ) (p : Known) : Type 0 where
  pub own : has p.view.numbers p.number ≡ true
  pub fair : IsFairHome n p.view

fair_pass : (n : ℕ) (p q : Known) → q.number ≡ p.number → q.view.numbers ≡ p.view.numbers → IsFairPass n p → IsFairHome n q.view → IsFairPass n q
fair_pass n p q number numbers is fair = record {
  own = subst (λ (x : List ℕ × ℕ). has x.0 x.1 ≡ true) (λ i. (sym numbers i, sym number i)) is.own;
  fair = fair;
}

-- it took others in
pub took_pass : (n : ℕ) (old new : List Known) → EachTook old new → (place : ℕ) (d : Known) → place < length old → IsFairPass n (get_or old place d) → IsFairPass n (get_or new place d)
took_pass n old new took place d below is =
    let one = took.each place d below in
    record {
      own = subst (λ (k : ℕ). has (get_or new place d).view.numbers k ≡ true) (sym (took.number place d below)) (one.numbers (get_or old place d).number is.own);
      fair = took_fair n (get_or new place d) (get_or old place d) one is.fair;
    }

-- ---- drainings

module _ {S C : Type 0} (sink : Told S) (moments : C → Option (ℕ → ℕ)) (n : ℕ) where
  drained_home : (w : SinkWorker AtHome S C) (old : Known) (end : ChannelDrain) (back : S) (new : Known) → has old.view.numbers w.port.number ≡ true → IsDrainedHome sink moments w old end back new → IsFairPass n old → IsFairPass n new
  drained_home w old end back new mine did is =
      let k = w.port.number in
      let g = drained_goes sink w.batch end (record { from = under k old; sink = w.sink; moments = moments w.clock }) (record { from = under k new; sink = back; moments = did.after }) mine did.later did.track in
      fair_pass n old new did.number did.later.numbers is (home_goes k n old.view new.view g is.fair)

  drained_at : (w : SinkWorker AtHome S C) (old : List Known) (end : ChannelDrain) (back : S) (new : List Known) → HasNumber old w.channel w.port.number → IsDrainedAt sink moments w old end back new
      → (place : ℕ) (d : Known) → IsFairPass n (get_or old place d) → IsFairPass n (get_or new place d)
  drained_at w old end back new mine did place d = dite (ℕ_discrete w.channel place)
      (λ same. subst (λ (k : ℕ). IsFairPass n (get_or old k d) → IsFairPass n (get_or new k d)) same
      (drained_home w (get_or old w.channel d) end back (get_or new w.channel d) (mine d) (did.home d)))
      (λ other is. subst (IsFairPass n) (sym (did.others place d ((λ e. other (sym e)), tt))) is)

  numbers_at : (w : SinkWorker AtHome S C) (old : List Known) (end : ChannelDrain) (back : S) (new : List Known) → IsDrainedAt sink moments w old end back new
      → (place k : ℕ) → HasNumber old place k → HasNumber new place k
  numbers_at w old end back new did place k mine d = dite (ℕ_discrete w.channel place)
      (λ same. subst (λ (p : ℕ). has (get_or old p d).view.numbers k ≡ true → has (get_or new p d).view.numbers k ≡ true) same
      (subst (λ (ns : List ℕ). has ns k ≡ true) (sym (did.home d).later.numbers)) (mine d))
      (λ other. subst (λ (q : Known). has q.view.numbers k ≡ true) (sym (did.others place d ((λ e. other (sym e)), tt))) (mine d))

  abbrev pub HaveNumbers : List Known → List (SinkWorker AtHome S C) → Type 0
  HaveNumbers homes ws = AllByRecursion (λ (w : SinkWorker AtHome S C). HasNumber homes w.channel w.port.number) ws

  numbers_all : (w : SinkWorker AtHome S C) (old : List Known) (end : ChannelDrain) (back : S) (new : List Known) → IsDrainedAt sink moments w old end back new → (ws : List (SinkWorker AtHome S C)) → HaveNumbers old ws → HaveNumbers new ws
  numbers_all w old end back new did [] all = tt
  numbers_all w old end back new did (v ∷ ws) all = (numbers_at w old end back new did v.channel v.port.number all.0, numbers_all w old end back new did ws all.1)

  -- draining the sinks' channels leaves the calls with a number of a pass at home fair
  pub drained_all : (ws : List (SinkWorker AtHome S C)) (old : List Known) (ends : List ChannelDrain) (backs : List S) (new : List Known) → HaveNumbers old ws → AreDrained (IsDrainedAt sink moments) ws old ends backs new
      → (place : ℕ) (d : Known) → IsFairPass n (get_or old place d) → IsFairPass n (get_or new place d)
  drained_all [] old [] [] new mine same place d is = subst (λ (l : List Known). IsFairPass n (get_or l place d)) (sym same) is
  drained_all [] old [] (b ∷ backs) new mine all place d is = absurd all
  drained_all [] old (e ∷ ends) backs new mine all place d is = absurd all
  drained_all (w ∷ ws) old [] backs new mine all place d is = absurd all
  drained_all (w ∷ ws) old (e ∷ ends) [] new mine all place d is = absurd all
  drained_all (w ∷ ws) old (e ∷ ends) (b ∷ backs) new mine (mid, one, all) place d is =
      drained_all ws mid ends backs new (numbers_all w old e b mid one ws mine.1) all place d (drained_at w old e b mid mine.0 one place d is)

-- ---- the stop

module _ {A B : Type 0} (disk : A → Opening → List Step → Type 0) (tells : A → Bool) (moment : A → ℕ) (n : ℕ) (shares : List (EitherShared A B)) (share : EitherShared A B) where
  kept_one : (laid : A → State → Type 0) (pruned : A → Type 0) (b : Bool) (s : EitherShared A B) (old new : Known) → KeptIf b (IsKept disk tells moment laid pruned s) old new → IsFairPass n old → IsFairPass n new
  kept_one laid pruned true s old new did is = fair_pass n old new did.later.number did.later.numbers is (kept_home disk tells moment laid pruned s n old.number old.view new.view is.own did.keeps is.fair)
  kept_one laid pruned false s old new same is = subst (IsFairPass n) (sym same) is

  -- a checkpoint at the stop leaves the calls with a number of a pass at home fair
  pub kept_all : (laid : A → State → Type 0) (pruned : A → Type 0) (closes : List Bool) (old new : List Known) → AreKept (IsKept disk tells moment laid pruned) shares closes old new
      → (place : ℕ) (d : Known) → place < length old → IsFairPass n (get_or old place d) → IsFairPass n (get_or new place d)
  kept_all laid pruned closes old new did place d below =
      kept_one laid pruned (get_or closes place true) (get_or shares place share) (get_or old place d) (get_or new place d) (did.each place share true d d below)

  -- a mend at the stop leaves the calls with a number of a pass at home fair
  pub mended_all : (old : List Known) (answers : List (Result Bool OpenCause)) (new : List Known) → AreMended (IsMended disk tells moment) shares old answers new
      → (answer : Result Bool OpenCause) (place : ℕ) (d : Known) → place < length old → IsFairPass n (get_or old place d) → IsFairPass n (get_or new place d)
  mended_all old answers new did answer place d below is =
      let p = get_or old place d in
      let one = did.each place share d d answer below in
      fair_pass n p (get_or new place d) one.later.number one.later.numbers is
      (mended_home disk tells moment (get_or shares place share) n p.number p.view (get_or new place d).view (get_or answers place answer) is.own one.mends is.fair)

saw_fair : (n : ℕ) (p q : Known) → q ≡ record p { view = saw p.view p.view.seen } → IsFairPass n p → IsFairPass n q
saw_fair n p q same is = subst (IsFairPass n) (sym same) (record { own = is.own; fair = record { mine = is.fair.mine; fair = is.fair.fair } })

-- counting what each channel did leaves the calls with a number of a pass at home fair
pub counted_all : (n : ℕ) (old : List Known) (before after : List (String Global × Counts)) (new : List Known) → AreCounted old before after new → (named : String Global × Counts) (place : ℕ) (d : Known) → place < length old
    → IsFairPass n (get_or old place d) → IsFairPass n (get_or new place d)
counted_all n old before after new did named place d below = saw_fair n (get_or old place d) (get_or new place d) (did.each place d d named named below).pass
