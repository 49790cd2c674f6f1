-- The steps of passes keep the rule: the start, a number that is dealt, and a join.
use Rattle.std.proofs.Common.{◌≡◌, ◌≢◌, ◌⊎◌, ℕ, zero, suc, ◌<◌, List, [], ◌∷◌, ◌++◌, length, set, true, false, refl, sym, ap, ◌∙◌, subst, ⊎_elim, inl, inr, arith, length-append}
use Rattle.std.proofs.lemmas.List.{append-nil}
use Rattle.std.specs.Prelude.{Option, Some, slice_index, slice_set}
use mathlib.Core.List.{IsPrefix}
use mathlib.Core.Option.{some, some-ne-none, some-injective}
use mathlib.Core.Option as maybe
use lib.ListN.{get_elem?}
use Rattle.atomic_table.specs.Table.{Me, keeps, step, opening, Allows, Splits, Joins}
use Rattle.atomic_table.proofs.Lists.{at_set, at_longer}
use Rattle.channel_face.specs.History.{Opening, Step}
use Rattle.channel_lock.specs.Views.{View, part, dealer, dealing, newcomer, gone, longer, both, joined}
use Rattle.channel_lock.specs.Calls.{has, calls_by, Below}
use Rattle.channel_lock.specs.Turns.{Has, IsOf, Fits, Apart, Held, Kept, LooksJoined}
use Rattle.channel_lock.proofs.Histories.{begins_self, begins_empty, nil_of, no_numbers, longer_begins, between, has_either, has_left, has_right, calls_of_both, fresh, below_front, below_next, has_only}
use Rattle.channel_lock.proofs.Moves.{off, not_true, heard_nothing, fits_set, apart_set, held_set}

at_end : (l : List View) (a b : View) (j : ℕ) → get_elem? (l ++ a ∷ []) j ≡ some b → (get_elem? l j ≡ some b) ⊎ ((j ≡ length l) × (a ≡ b))
at_end [] a b zero e = inr (refl, some-injective a b e)
at_end [] a b (suc j) e = absurd (some-ne-none b (sym e))
at_end (x ∷ xs) a b zero e = inl e
at_end (x ∷ xs) a b (suc j) e = ⊎_elim (λ (h : get_elem? xs j ≡ some b). inl h) (λ (h : (j ≡ length xs) × (a ≡ b)). inr (ap suc h.0, h.1)) (at_end xs a b j e)

-- a list and its beginning that is as long
whole : (l log : List Step) → IsPrefix log l → IsPrefix l log → l ≡ log
whole l log p q = let a = ap length p.1 in let b = ap length q.1 in
    sym p.1 ∙ ap (λ r. log ++ r) (nil_of p.0 (omega (arith, length-append log p.0, length-append l q.0))) ∙ append-nil log

module _ {C : Type 0} (stands : C → Opening → List Step → Type 0) (base : Opening) (passes : ℕ) where
  -- a new table with a channel that made no call keeps the rule
  pub begins : (c : C) → stands c base [] → Kept stands base passes (opening (0 ∷ 0 ∷ []) (Some c ∷ []) (dealer base passes))
  begins c ok = record {
    log = [];
    turn = 0;
    holder = 0;
    dealt = 0;
    words = refl;
    at_most_two = omega arith;
    home = λ z. (c, refl, ok);
    held = λ e. absurd (omega arith);
    shut = λ e. absurd (omega arith);
    below = tt;
    room = omega arith;
    fits = fits;
    apart = λ i j v w vi wj n hv hw. absurd (off (sym (nobody i v vi n) ∙ hv));
  }
    where
      fits : (j : ℕ) (v : View) → get_elem? (dealer base passes ∷ []) j ≡ some v → Fits [] base passes 0 0 0 j v
      fits zero v e = subst (λ (u : View). Fits [] base passes 0 0 0 0 u) (some-injective (dealer base passes) v e)
          record { same = λ z. (refl, refl); begins = begins_self []; one = heard_nothing [] base passes []; other = heard_nothing [] base passes []; parts = λ n h. absurd (off h); calls = refl; holds = λ t. absurd (off t); first = λ z. (refl, refl); drawn = λ n h. absurd (off h) }
      fits (suc j) v e = absurd (some-ne-none v (sym e))

      nobody : (i : ℕ) (v : View) → get_elem? (dealer base passes ∷ []) i ≡ some v → (n : ℕ) → has v.numbers n ≡ false
      nobody zero v e n = subst (λ (u : View). has u.numbers n ≡ false) (some-injective (dealer base passes) v e) refl
      nobody (suc i) v e n = absurd (some-ne-none v (sym e))

  -- the rule is kept where the first seat deals a number to a new one
  pub deals : (id : ℕ) (v : View) → v.deals ≡ true → v.turn ≡ false → v.live ≡ true → v.dealt < v.passes → Splits (Kept stands base passes) id v (dealing v) (newcomer v)
  deals id v on free live lt s k at = record {
    log = k.log;
    turn = k.turn;
    holder = k.holder;
    dealt = suc k.dealt;
    words = k.words;
    at_most_two = k.at_most_two;
    home = k.home;
    held = λ one. longer_held (held_set s.views id v (dealing v) at (λ t. t) (k.held one));
    shut = k.shut;
    below = below_next k.dealt k.log k.below;
    room = let i = is in let p = (mine.same live).1 in omega arith;
    fits = λ j u e. ⊎_elim
        (λ (h : get_elem? (set s.views id (dealing v)) j ≡ some u). fits_set k.log base passes k.turn k.holder (suc k.dealt) s.views id (dealing v) others mine' j u h)
        (λ (h : (j ≡ length (set s.views id (dealing v))) × (newcomer v ≡ u)). subst (λ (x : View). Fits k.log base passes k.turn k.holder (suc k.dealt) j x) h.1 (new j))
        (at_end (set s.views id (dealing v)) (newcomer v) u j e);
    apart = apart;
  }
    where
      mine : Fits k.log base passes k.turn k.holder k.dealt id v
      mine = k.fits id v at

      is : v.dealt ≡ k.dealt
      is = (mine.first on).1

      others : (j : ℕ) (u : View) → j ≢ id → get_elem? s.views j ≡ some u → Fits k.log base passes k.turn k.holder (suc k.dealt) j u
      others j u away e =
          let f = k.fits j u e in
          record {
            same = f.same;
            begins = f.begins;
            one = f.one;
            other = f.other;
            parts = f.parts;
            calls = f.calls;
            holds = f.holds;
            first = λ d. absurd (away ((f.first d).0 ∙ sym (mine.first on).0));
            drawn = λ n h. let lt = f.drawn n h in omega arith;
          }

      mine' : Fits k.log base passes k.turn k.holder (suc k.dealt) id (dealing v)
      mine' = record {
        same = mine.same;
        begins = mine.begins;
        one = mine.one;
        other = mine.other;
        parts = mine.parts;
        calls = mine.calls;
        holds = mine.holds;
        first = λ d. ((mine.first on).0, ap suc is);
        drawn = λ n h. let lt = mine.drawn n h in omega arith;
      }

      none_before : (xs : List Step) → Below k.dealt xs → calls_by (v.dealt ∷ []) xs ≡ []
      none_before xs all = ap (λ d. calls_by (d ∷ []) xs) is ∙ fresh k.dealt xs all

      new : (j : ℕ) → Fits k.log base passes k.turn k.holder (suc k.dealt) j (newcomer v)
      new j = record {
        same = λ z. mine.same live;
        begins = mine.begins;
        one = heard_nothing k.log base passes (v.dealt ∷ []);
        other = heard_nothing k.log base passes (v.dealt ∷ []);
        parts = λ n h. absurd (off h);
        calls = none_before k.log k.below ∙ sym (none_before v.seen (below_front k.dealt v.seen mine.begins.0 (subst (Below k.dealt) (sym mine.begins.1) k.below)));
        holds = λ t. absurd (off t);
        first = λ t. absurd (off t);
        drawn = λ n h. let e = has_only v.dealt n h in let i = is in omega arith;
      }

      old : List View
      old = set s.views id (dealing v)

      longer_held : Held old → Held (old ++ newcomer v ∷ [])
      longer_held h = (h.0, h.1, at_longer old (newcomer v ∷ []) h.0 h.1 h.2, h.3)

      fits_old : (j : ℕ) (u : View) → get_elem? old j ≡ some u → (n : ℕ) → has u.numbers n ≡ true → n < k.dealt
      fits_old j u e n h = ⊎_elim
          (λ (x : (j ≡ id) × (dealing v ≡ u)). mine.drawn n (subst (λ (y : View). has y.numbers n ≡ true) (sym x.1) h))
          (λ (x : (j ≢ id) × (get_elem? s.views j ≡ some u)). (k.fits j u x.1).drawn n h)
          (at_set s.views id j (dealing v) u e)

      number : (u : View) → newcomer v ≡ u → (n : ℕ) → has u.numbers n ≡ true → n ≡ k.dealt
      number u e n h = has_only v.dealt n (subst (λ (y : View). has y.numbers n ≡ true) (sym e) h) ∙ is

      apart : Apart (old ++ newcomer v ∷ [])
      apart i j u x ui xj n hu hx = ⊎_elim
          (λ (a : get_elem? old i ≡ some u). ⊎_elim
          (λ (b : get_elem? old j ≡ some x). apart_set s.views id v (dealing v) at (λ m h. h) k.apart i j u x a b n hu hx)
          (λ (b : (j ≡ length old) × (newcomer v ≡ x)). let lt = fits_old i u a n hu in let e = number x b.1 n hx in absurd (omega arith))
          (at_end old (newcomer v) x j xj))
          (λ (a : (i ≡ length old) × (newcomer v ≡ u)). ⊎_elim
          (λ (b : get_elem? old j ≡ some x). let lt = fits_old j x b n hx in let e = number u a.1 n hu in absurd (omega arith))
          (λ (b : (j ≡ length old) × (newcomer v ≡ x)). a.0 ∙ sym b.0)
          (at_end old (newcomer v) x j xj))
          (at_end old (newcomer v) u i ui)

  -- the rule is kept where one seat takes another in
  pub joins : (id : ℕ) (v : View) (other : ℕ) (w : View) → w.turn ≡ false → v.live ≡ true → Joins (Kept stands base passes) id v other w (both v w) gone
  joins id v other w free live s k at away there = record {
    log = k.log;
    turn = k.turn;
    holder = k.holder;
    dealt = k.dealt;
    words = k.words;
    at_most_two = k.at_most_two;
    home = k.home;
    held = λ one. held_set first other w gone there (λ t. absurd (off (sym free ∙ t))) (held_set s.views id v (both v w) at (λ t. t) (k.held one));
    shut = k.shut;
    below = k.below;
    room = k.room;
    fits = fits_set k.log base passes k.turn k.holder k.dealt first other gone (λ j u _ e. fits_set k.log base passes k.turn k.holder k.dealt s.views id (both v w) (λ i y _ e'. k.fits i y e') joined_fits j u e)
        record {
          same = λ z. absurd (off z);
          begins = begins_empty k.log;
          one = heard_nothing k.log base passes [];
          other = heard_nothing k.log base passes [];
          parts = λ n h. absurd (off h);
          calls = no_numbers k.log;
          holds = λ t. absurd (off t);
          first = λ t. absurd (off t);
          drawn = λ n h. absurd (off h);
        };
    apart = apart;
  }
    where
      first : List View
      first = set s.views id (both v w)

      was_there : get_elem? s.views other ≡ some w
      was_there = ⊎_elim (λ (t : (other ≡ id) × (both v w ≡ w)). absurd (away t.0)) (λ (t : (other ≢ id) × (get_elem? s.views other ≡ some w)). t.1) (at_set s.views id other (both v w) w there)

      mine : Fits k.log base passes k.turn k.holder k.dealt id v
      mine = k.fits id v at

      theirs : Fits k.log base passes k.turn k.holder k.dealt other w
      theirs = k.fits other w was_there

      held : (v.turn ≡ true) → (longer v.seen w.seen ≡ k.log)
      held t = let l = longer_begins v.seen w.seen k.log mine.begins theirs.begins in
          let h : v.seen ≡ k.log = (mine.holds t).2 in whole (longer v.seen w.seen) k.log (subst (λ (x : List Step). IsPrefix x (longer v.seen w.seen)) h l.0) l.2

      joined_fits : Fits k.log base passes k.turn k.holder k.dealt id (both v w)
      joined_fits = record {
        same = mine.same;
        begins = (longer_begins v.seen w.seen k.log mine.begins theirs.begins).2;
        one = record { same = mine.same; begins = mine.begins; calls = mine.calls; among = λ n h. has_left v.numbers w.numbers n h };
        other = record { same = theirs.same; begins = theirs.begins; calls = theirs.calls; among = λ n h. has_right v.numbers w.numbers n h };
        parts = λ n h. not_true (has w.numbers n) (λ b. away (sym (k.apart id other v w at was_there n h b)));
        calls = calls_of_both v.numbers w.numbers v.seen w.seen k.log mine.begins theirs.begins mine.calls theirs.calls;
        holds = λ t. ((mine.holds t).0, (mine.holds t).1, held t);
        first = mine.first;
        drawn = λ n h. ⊎_elim (λ (a : has v.numbers n ≡ true). mine.drawn n a) (λ (b : has w.numbers n ≡ true). theirs.drawn n b) (has_either v.numbers w.numbers n h);
      }

      -- where a number stood before
      Origin : ℕ → ℕ → Type 0
      Origin j n = (o : ℕ) × (x : View) × (get_elem? s.views o ≡ some x) × (has x.numbers n ≡ true) × (j ≢ other) × ((o ≡ j) ⊎ ((o ≡ other) × (j ≡ id)))

      origin' : (j : ℕ) (u : View) → j ≢ other → get_elem? first j ≡ some u → (n : ℕ) → has u.numbers n ≡ true → Origin j n
      origin' j u apart e n h = ⊎_elim
          (λ (x : (j ≡ id) × (both v w ≡ u)). ⊎_elim
          (λ (a : has v.numbers n ≡ true). let r : Origin j n = (id, v, at, a, apart, inl (sym x.0)) in r)
          (λ (b : has w.numbers n ≡ true). let r : Origin j n = (other, w, was_there, b, apart, inr (refl, x.0)) in r)
          (has_either v.numbers w.numbers n (subst (λ (y : View). has y.numbers n ≡ true) (sym x.1) h)))
          (λ (x : (j ≢ id) × (get_elem? s.views j ≡ some u)). let r : Origin j n = (j, u, x.1, h, apart, inl refl) in r)
          (at_set s.views id j (both v w) u e)

      origin : (j : ℕ) (u : View) → get_elem? (set first other gone) j ≡ some u → (n : ℕ) → has u.numbers n ≡ true → Origin j n
      origin j u e n h = ⊎_elim
          (λ (x : (j ≡ other) × (gone ≡ u)). absurd (off (subst (λ (y : View). has y.numbers n ≡ true) (sym x.1) h)))
          (λ (x : (j ≢ other) × (get_elem? first j ≡ some u)). origin' j u x.0 x.1 n h)
          (at_set first other j gone u e)

      apart : Apart (set first other gone)
      apart i j u x ui xj n hu hx =
          let a = origin i u ui n hu in
          let b = origin j x xj n hx in
          let e : a.0 ≡ b.0 = k.apart a.0 b.0 a.1 b.1 a.2 b.2 n a.3 b.3 in
          ⊎_elim
          (λ (p : a.0 ≡ i). ⊎_elim (λ (q : b.0 ≡ j). sym p ∙ e ∙ q) (λ (q : (b.0 ≡ other) × (j ≡ id)). absurd (a.4 (sym p ∙ e ∙ q.0))) b.5)
          (λ (p : (a.0 ≡ other) × (i ≡ id)). ⊎_elim (λ (q : b.0 ≡ j). absurd (b.4 (sym q ∙ sym e ∙ p.0))) (λ (q : (b.0 ≡ other) × (j ≡ id)). p.1 ∙ sym q.1) b.5)
          a.5

  -- a seat looks after a join, and sees all calls of both
  pub looks_joined : (id : ℕ) (v w : View) → v.live ≡ true → Allows (Kept stands base passes) 1 id (both v w, []) 0 (λ n. n) (LooksJoined (step 1 0 0 0 maybe.none) (both v w, []))
  looks_joined id v w live s k wide at small = (joined (both v w), keeps, tt, after, (refl, mine_has, theirs_has, theirs, mine.parts, λ n h. let lt = mine.drawn n h in let p = (mine.same live).1 in let r = k.room in omega arith))
    where
      mine : Fits k.log base passes k.turn k.holder k.dealt id (both v w)
      mine = k.fits id (both v w) at

      l : IsPrefix v.seen (longer v.seen w.seen) × IsPrefix w.seen (longer v.seen w.seen) × IsPrefix (longer v.seen w.seen) k.log × ((longer v.seen w.seen ≡ v.seen) ⊎ (longer v.seen w.seen ≡ w.seen))
      l = longer_begins v.seen w.seen k.log mine.one.begins mine.other.begins

      mine_has : Has (longer v.seen w.seen) (part v)
      mine_has = (l.0, between v.numbers v.seen (longer v.seen w.seen) k.log l.0 l.2 mine.one.calls)

      theirs : IsOf (both v w) (part w)
      theirs z = let t = mine.other.same z in let m = mine.same live in (t.0 ∙ sym m.0, t.1 ∙ sym m.1)

      theirs_has : Has (longer v.seen w.seen) (part w)
      theirs_has = (l.1, between w.numbers w.seen (longer v.seen w.seen) k.log l.1 l.2 mine.other.calls)

      after : Kept stands base passes record { words = slice_set s.words 0 (slice_index s.words 0); homes = s.homes; views = set s.views id (joined (both v w)) }
      after = record {
        log = k.log;
        turn = k.turn;
        holder = k.holder;
        dealt = k.dealt;
        words = subst (λ ws. slice_set ws 0 (slice_index ws 0) ≡ length k.log ∷ k.turn ∷ []) (sym k.words) refl;
        at_most_two = k.at_most_two;
        home = k.home;
        held = λ one. held_set s.views id (both v w) (joined (both v w)) at (λ t. t) (k.held one);
        shut = k.shut;
        below = k.below;
        room = k.room;
        fits = fits_set k.log base passes k.turn k.holder k.dealt s.views id (joined (both v w)) (λ j u _ e. k.fits j u e)
            record {
              same = mine.same;
              begins = mine.begins;
              one = heard_nothing k.log base passes (v.numbers ++ w.numbers);
              other = heard_nothing k.log base passes (v.numbers ++ w.numbers);
              parts = λ n h. absurd (off h);
              calls = mine.calls;
              holds = mine.holds;
              first = mine.first;
              drawn = mine.drawn;
            };
        apart = apart_set s.views id (both v w) (joined (both v w)) at (λ n h. h) k.apart;
      }

  -- the same look, for a seat that is known to come from a join
  pub looks_joined_as : (id : ℕ) (me : Me (Option C) View) (v w : View) → v.live ≡ true → me ≡ (both v w, []) → Allows (Kept stands base passes) 1 id me 0 (λ n. n) (LooksJoined (step 1 0 0 0 maybe.none) me)
  looks_joined_as id me v w live is = subst (λ (m : Me (Option C) View). Allows (Kept stands base passes) 1 id m 0 (λ n. n) (LooksJoined (step 1 0 0 0 maybe.none) m)) (sym is) (looks_joined id v w live)

module _ {C : Type 0} (stands : C → Opening → List Step → Type 0) where
  -- the start keeps the rule also where the channel is given as the only item
  pub begins_as : (base : Opening) (passes : ℕ) (c : C) (items : List (Option C)) → items ≡ Some c ∷ [] → stands c base [] → Kept stands base passes (opening (0 ∷ 0 ∷ []) items (dealer base passes))
  begins_as base passes c items is ok = subst (λ (l : List (Option C)). Kept stands base passes (opening (0 ∷ 0 ∷ []) l (dealer base passes))) (sym is) (begins stands base passes c ok)
