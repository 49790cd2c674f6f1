-- Sinks that emptied their channels one after the other, and the passes at home.
use Rattle.std.proofs.Common.{◌≡◌, ◌∙◌, ◌<◌, ℕ, zero, suc, List, [], ◌∷◌, ◌++◌, All, Option, true, length, set, get_or, Bool, if◌then◌else◌, refl, sym, ap, subst, arith, length-set}
use Rattle.std.proofs.lemmas.List.{append-nil, get_or-set_same}
use Rattle.std.specs.List.{insert, remove}
use mathlib.Core.Logic.{dite}
use native.Mathlib.Decide.{ℕ_discrete}
use Rattle.agent_end.specs.declared.draining.ChannelDrain.{ChannelDrain}
use Rattle.agent_end.specs.declared.draining.ChannelDrain.TheVariants.{Emptied}
use Rattle.atomic_table.specs.Seated.{TableId}
use Rattle.shared_channel.specs.Calls.{state_seen}
use Rattle.shared_channel.specs.Passes.{Known}
use Rattle.shared_channel.specs.Ports.{Later}
use Rattle.sink_worker.specs.Rounds.{Told}
use Rattle.sink_worker.specs.declared.worker.SinkWorker.{SinkWorker}
use Rattle.channel_lock.specs.Calls.{has}
use Rattle.channel_lock.specs.Turns.{HasAll}
use Rattle.run_tracks.specs.Drained.{IsDrainedInTrack}
use Rattle.run_tracks.specs.Homes.{AreHomes}
use Rattle.run_tracks.proofs.Homing.{prefix_then, set_elsewhere}
use Rattle.run_settling.specs.declared.at_home.AtHome.{AtHome}
use Rattle.run_settling.specs.Draining.{AreDrained, EachGoesOn, GoesOn, HasOwn, IsDrainedAt, IsDrainedHome, IsSinkHome, under}

-- what was taken out of a list is put in again at its place
pub put_back : {X : Type 0} (xs : List X) (i : ℕ) (x : X) → i < length xs → insert (remove xs i) i x ≡ set xs i x
put_back [] i x below = absurd (omega (arith, below))
put_back (y ∷ xs) zero x below = refl
put_back (y ∷ xs) (suc i) x below = ap (λ (l : List _). y ∷ l) (put_back xs i x (omega (arith, below)))

goes_self : (p : Known) → GoesOn p p
goes_self p = record { table = refl; number = refl; base = refl; passes = refl; numbers = refl; begins = ([], append-nil p.view.seen) }

goes_then : (p q r : Known) → GoesOn p q → GoesOn q r → GoesOn p r
goes_then p q r f g = record {
  table = g.table ∙ f.table;
  number = g.number ∙ f.number;
  base = g.base ∙ f.base;
  passes = g.passes ∙ f.passes;
  numbers = g.numbers ∙ f.numbers;
  begins = prefix_then p.view.seen q.view.seen r.view.seen f.begins g.begins;
}

-- passes at home go on to themselves
pub each_goes_self : (homes : List Known) → EachGoesOn homes homes
each_goes_self homes = record { as_many = refl; each = λ place d below. goes_self (get_or homes place d) }

-- passes at home that go on, and then go on again
pub each_goes_then : (a b c : List Known) → EachGoesOn a b → EachGoesOn b c → EachGoesOn a c
each_goes_then a b c f g = record {
  as_many = g.as_many ∙ f.as_many;
  each = λ place d below. goes_then (get_or a place d) (get_or b place d) (get_or c place d) (f.each place d below) (g.each place d (let e = f.as_many in omega arith));
}

-- a pass that turned to a number of its own
pub turned_to : (p q : Known) (n : ℕ) (own : Bool) → own ≡ has p.view.numbers n → has p.view.numbers n ≡ true → (q.table_id ≡ p.table_id) × (q.view ≡ p.view) → q.number ≡ (if own then n else p.number) → q ≡ under n p
turned_to p q n own is mine same number =
    let turned : q.number ≡ n = number ∙ ap (λ (b : Bool). if b then n else p.number) (is ∙ mine) in
    λ i. record { table_id = same.0 i; number = turned i; view = same.1 i }

-- passes that go on are of the same channels, and have the same numbers
module _ (old new : List Known) (on : EachGoesOn old new) where
  was_below : (place : ℕ) → place < length new → place < length old
  was_below place below = let e = on.as_many in omega (arith, below, e)

  -- passes at home that go on are still those of the channels
  pub homes_go_on : {Z : Type 0} (table : Z → TableId) (shares : List Z) → AreHomes table shares old → AreHomes table shares new
  homes_go_on table shares are = record {
    as_many = on.as_many ∙ are.as_many;
    each = λ place d below.
        let low = was_below place below in
        let at = are.each place d low in
        record { below = at.below; here = λ s. (on.each place d low).table ∙ at.here s };
  }

  -- each that goes on still has all numbers
  pub all_go_on : All (λ (p : Known). HasAll p.view) old → All (λ (p : Known). HasAll p.view) new
  all_go_on all = λ place d below.
      let low = was_below place below in
      let one = on.each place d low in
      λ n lt. subst (λ (l : List ℕ). has l n ≡ true) (sym one.numbers) (all place d low n (subst (λ (k : ℕ). n < k) one.passes lt))

  -- the next call of each still carries a number of its own
  pub own_go_on : All HasOwn old → All HasOwn new
  own_go_on all = λ place d below.
      let low = was_below place below in
      let one = on.each place d low in
      subst (λ (x : List ℕ × ℕ). has x.0 x.1 ≡ true) (λ i. (sym one.numbers i, sym one.number i)) (all place d low)

  -- a sink whose channel has a pass at home has it still
  pub sink_goes_on : {S C : Type 0} (w : SinkWorker AtHome S C) → IsSinkHome old w → IsSinkHome new w
  sink_goes_on w is = (
    let e = on.as_many in let l = is.0 in omega (arith, e, l),
    λ d. subst (λ (l : List ℕ). has l w.port.number ≡ true) (sym (on.each w.channel d is.0).numbers) (is.1 d),
  )

module _ {S C : Type 0} (sink : Told S) (moments : C → Option (ℕ → ℕ)) (w : SinkWorker AtHome S C) where
  -- it turned to the worker's number, and then to its own again
  pub drained_under : (end : ChannelDrain) (back : S) (after : Option (ℕ → ℕ)) (p first last q : Known) → first ≡ under w.port.number p → q ≡ under p.number last → Later first last
      → IsDrainedInTrack sink w.batch end (record { from = first; sink = w.sink; moments = moments w.clock }) (record { from = last; sink = back; moments = after })
      → (end ≡ Emptied → (state_seen last.view).items ≡ []) → IsDrainedHome sink moments w p end back q
  drained_under end back after p first last q turned own later track none =
      let number : last.number ≡ w.port.number = later.number ∙ ap (λ (k : Known). k.number) turned in
      let same : last ≡ under w.port.number q = (λ i. record last { number = number i }) ∙ ap (λ (k : Known). under w.port.number k) (sym own) in
      record {
        number = ap (λ (k : Known). k.number) own;
        later = subst (λ (x : Known × Known). Later x.0 x.1) (λ i. (turned i, same i)) later;
        after = after;
        track = subst (λ (x : Known × Known). IsDrainedInTrack sink w.batch end (record { from = x.0; sink = w.sink; moments = moments w.clock }) (record { from = x.1; sink = back; moments = after })) (λ i. (turned i, same i)) track;
        none = λ is. subst (λ (k : Known). (state_seen k.view).items ≡ []) (sym own) (none is);
      }

  home_goes_on : (p : Known) (end : ChannelDrain) (back : S) (q : Known) → IsDrainedHome sink moments w p end back q → GoesOn p q
  home_goes_on p end back q did = record { table = did.later.table; number = did.number; base = did.later.base; passes = did.later.passes; numbers = did.later.numbers; begins = did.later.begins }

  -- the pass at home of one channel goes on, and each other is as it was
  pub drained_goes_on : (old : List Known) (end : ChannelDrain) (back : S) (new : List Known) → IsDrainedAt sink moments w old end back new → EachGoesOn old new
  drained_goes_on old end back new did = record {
    as_many = did.as_many;
    each = λ place d below. dite (ℕ_discrete w.channel place)
        (λ same. subst (λ (k : ℕ). GoesOn (get_or old k d) (get_or new k d)) same (home_goes_on (get_or old w.channel d) end back (get_or new w.channel d) (did.home d)))
        (λ other. subst (λ (q : Known). GoesOn (get_or old place d) q) (sym (did.others place d ((λ e. other (sym e)), tt))) (goes_self (get_or old place d)));
  }

  -- a sink that drained its channel changed only the pass at that place
  pub drained_set : (homes : List Known) (end : ChannelDrain) (back : S) (q : Known) → w.channel < length homes → ((d : Known) → IsDrainedHome sink moments w (get_or homes w.channel d) end back q) → IsDrainedAt sink moments w homes end back (set homes w.channel q)
  drained_set homes end back q below did = record {
    as_many = length-set homes w.channel q;
    others = set_elsewhere homes w.channel q;
    home = λ d. subst (λ (p : Known). IsDrainedHome sink moments w (get_or homes w.channel d) end back p) (sym (get_or-set_same homes w.channel q d below)) (did d);
  }

module _ {W S : Type 0} (Drained : W → List Known → ChannelDrain → S → List Known → Type 0) where
  -- one more
  pub drained_push : (ws : List W) (old : List Known) (ends : List ChannelDrain) (backs : List S) (mid : List Known) (w : W) (end : ChannelDrain) (back : S) (new : List Known)
      → AreDrained Drained ws old ends backs mid → Drained w mid end back new → AreDrained Drained (ws ++ w ∷ []) old (ends ++ end ∷ []) (backs ++ back ∷ []) new
  drained_push [] old [] [] mid w end back new all one = (new, subst (λ (l : List Known). Drained w l end back new) all one, refl)
  drained_push [] old [] (b ∷ backs) mid w end back new all one = absurd all
  drained_push [] old (e ∷ ends) backs mid w end back new all one = absurd all
  drained_push (v ∷ ws) old [] backs mid w end back new all one = absurd all
  drained_push (v ∷ ws) old (e ∷ ends) [] mid w end back new all one = absurd all
  drained_push (v ∷ ws) old (e ∷ ends) (b ∷ backs) mid w end back new all one = (all.0, all.1, drained_push ws all.0 ends backs mid w end back new all.2 one)

  -- as many come back as there were
  pub drained_ends : (ws : List W) (old : List Known) (ends : List ChannelDrain) (backs : List S) (new : List Known) → AreDrained Drained ws old ends backs new → (length ws ≡ length ends) × (length ws ≡ length backs)
  drained_ends [] old [] [] new all = (refl, refl)
  drained_ends [] old [] (b ∷ backs) new all = absurd all
  drained_ends [] old (e ∷ ends) backs new all = absurd all
  drained_ends (v ∷ ws) old [] backs new all = absurd all
  drained_ends (v ∷ ws) old (e ∷ ends) [] new all = absurd all
  drained_ends (v ∷ ws) old (e ∷ ends) (b ∷ backs) new all = let more = drained_ends ws all.0 ends backs new all.2 in (ap suc more.0, ap suc more.1)
