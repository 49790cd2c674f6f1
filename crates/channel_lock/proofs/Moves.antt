-- Each step keeps the rule.
use Rattle.std.proofs.Common.{◌≡◌, ◌≢◌, ℕ, zero, suc, ◌+◌, ◌%◌, ◌^◌, ◌<◌, List, [], ◌∷◌, ◌++◌, length, set, Bool, true, false, true≢false, eq-eqb, ne_eqb, refl, sym, ap, ◌∙◌, subst, ⊎_elim, arith, length-append}
use Rattle.std.specs.Prelude.{Option, Some, None, MatchBool, MatchOption, slice_index, slice_set, ◌==◌}
use mathlib.Core.List.{IsPrefix}
use mathlib.Core.Option.{some, none, some-ne-none, some-injective}
use mathlib.Core.Option as maybe
use mathlib.Core.Logic.{dite}
use native.Mathlib.Decide.{ℕ_discrete}
use prog.Atomic.{either}
use lib.ListN.{get_elem?}
use Rattle.atomic_table.specs.Table.{State, Me, Act, keeps, takes, gives, rest, step, Allows, Valid, carried_after, homes_after}
use Rattle.atomic_table.proofs.Lists.{at_set, set_again, set_here, set_else, exchanged}
use Rattle.channel_face.specs.History.{Opening, Step}
use Rattle.channel_lock.specs.Views.{Part, View, nothing, entered, idle, with_call}
use Rattle.channel_lock.specs.Calls.{has, calls_by, Below}
use Rattle.channel_lock.specs.Turns.{Heard, Fits, Apart, Held, Kept, Knows, Takes, Reads, Counts, CountsOne, Leaves}
use Rattle.channel_lock.proofs.Histories.{begins_self, begins_empty, begins_more, below_up, no_numbers, calls_by-other, below-more}

-- no is not yes
pub off : false ≡ true → ⊥
off e = true≢false (sym e)

-- what is not yes is no
pub not_true : (b : Bool) → ¬ (b ≡ true) → b ≡ false
not_true true never = absurd (never refl)
not_true false never = refl

-- the empty part is true of each history
pub heard_nothing : (log : List Step) (base : Opening) (passes : ℕ) (numbers : List ℕ) → Heard log base passes numbers nothing
heard_nothing log base passes numbers = record { same = λ z. absurd (off z); begins = begins_empty log; calls = no_numbers log; among = λ n h. absurd (off h) }

-- a further call whose number is not among these
heard_more : (log : List Step) (base : Opening) (passes : ℕ) (numbers : List ℕ) (p : Part) (e : Step) → has numbers e.pass ≡ false → Heard log base passes numbers p → Heard (log ++ e ∷ []) base passes numbers p
heard_more log base passes numbers p e apart h = record {
  same = h.same;
  begins = begins_more p.seen log e h.begins;
  calls = calls_by-other p.numbers log e (not_true (has p.numbers e.pass) (λ x. off (sym apart ∙ h.among e.pass x))) ∙ h.calls;
  among = h.among;
}

-- each seat fits, where one view was set
pub fits_set : (log : List Step) (base : Opening) (passes turn holder dealt : ℕ) (views : List View) (id : ℕ) (w : View) → ((j : ℕ) (u : View) → j ≢ id → get_elem? views j ≡ some u → Fits log base passes turn holder dealt j u) → Fits log base passes turn holder dealt id w
    → (j : ℕ) (u : View) → get_elem? (set views id w) j ≡ some u → Fits log base passes turn holder dealt j u
fits_set log base passes turn holder dealt views id w others mine j u e =
    ⊎_elim
    (λ (x : (j ≡ id) × (w ≡ u)). subst (λ (y : ℕ × View). Fits log base passes turn holder dealt y.0 y.1) (λ i. (sym x.0 i, x.1 i)) mine)
    (λ (x : (j ≢ id) × (get_elem? views j ≡ some u)). others j u x.0 x.1)
    (at_set views id j w u e)

-- a seat's view before one view was set, which had each number that it has now
was : (views : List View) (id : ℕ) (v w : View) → get_elem? views id ≡ some v → ((n : ℕ) → has w.numbers n ≡ true → has v.numbers n ≡ true)
    → (j : ℕ) (u : View) → get_elem? (set views id w) j ≡ some u → (o : View) × (get_elem? views j ≡ some o) × ((n : ℕ) → has u.numbers n ≡ true → has o.numbers n ≡ true)
was views id v w at less j u e =
    ⊎_elim
    (λ (x : (j ≡ id) × (w ≡ u)). (v, subst (λ k. get_elem? views k ≡ some v) (sym x.0) at, λ n h. less n (subst (λ (y : View). has y.numbers n ≡ true) (sym x.1) h)))
    (λ (x : (j ≢ id) × (get_elem? views j ≡ some u)). (u, x.1, λ n h. h))
    (at_set views id j w u e)

-- numbers stay apart where one view was set that has no new number
pub apart_set : (views : List View) (id : ℕ) (v w : View) → get_elem? views id ≡ some v → ((n : ℕ) → has w.numbers n ≡ true → has v.numbers n ≡ true) → Apart views → Apart (set views id w)
apart_set views id v w at less apart i j u x ui xj n hu hx =
    let a = was views id v w at less i u ui in
    let b = was views id v w at less j x xj in
    apart i j a.0 b.0 a.1 b.1 n (a.2 n hu) (b.2 n hx)

set_there : (views : List View) (id : ℕ) (v w : View) → get_elem? views id ≡ some v → get_elem? (set views id w) id ≡ some w
set_there [] id v w at = absurd (some-ne-none v (sym at))
set_there (x ∷ xs) zero v w at = refl
set_there (x ∷ xs) (suc id) v w at = set_there xs id v w at

-- a seat holds the lock, where one view was set that has it if the one before had it
pub held_set : (views : List View) (id : ℕ) (v w : View) → get_elem? views id ≡ some v → (v.turn ≡ true → w.turn ≡ true) → Held views → Held (set views id w)
held_set views id v w at on h = dite (ℕ_discrete h.0 id)
    (λ same. (id, w, set_there views id v w at, on (subst (λ (u : View). u.turn ≡ true) (some-injective h.1 v (sym h.2 ∙ ap (get_elem? views) same ∙ at)) h.3)))
    (λ apart. (h.0, h.1, set_else views id h.0 w apart ∙ h.2, h.3))

module _ {C : Type 0} (stands : C → Opening → List Step → Type 0) (base : Opening) (passes : ℕ) where
  still : (s : State (Option C) View) (k : Kept stands base passes s) (id : ℕ) (v : View) → get_elem? s.views id ≡ some v → Kept stands base passes record { words = length k.log ∷ k.turn ∷ []; homes = s.homes; views = set s.views id v }
  still s k id v at = record {
    log = k.log;
    turn = k.turn;
    holder = k.holder;
    dealt = k.dealt;
    words = refl;
    at_most_two = k.at_most_two;
    home = k.home;
    held = λ one. held_set s.views id v v at (λ t. t) (k.held one);
    shut = k.shut;
    below = k.below;
    room = k.room;
    fits = λ j u e. k.fits j u (subst (λ l. get_elem? l j ≡ some u) (set_again s.views id v at) e);
    apart = subst Apart (sym (set_again s.views id v at)) k.apart;
  }

  -- a seat takes the lock, with the channel where it was free
  pub take_turn : (id : ℕ) (v : View) → v.turn ≡ false → v.live ≡ true → Allows (Kept stands base passes) 1 id (v, []) 1 (λ n. either (n == 0) 1 n) (Takes stands (step 1 1 0 1 none) (v, []))
  take_turn id v free live s k wide at small = subst P (sym k.words) (exchanged k.turn 0 1 F hit miss)
    where
      -- what the step owes, over the words
      F' : List ℕ → ℕ → Type 0
      F' ws m = (w : View) × (a : Act (Option C)) × Valid s.homes [] a × Kept stands base passes record { words = slice_set ws 1 m; homes = homes_after s.homes [] a; views = slice_set s.views id w }
          × Takes stands (step 1 1 0 1 none) (v, []) (slice_index ws 1) (w, carried_after [] a)

      P : List ℕ → Type 0
      P ws = F' ws (either (slice_index ws 1 == 0) 1 (slice_index ws 1))

      here : List ℕ
      here = length k.log ∷ k.turn ∷ []

      F : ℕ → Type 0
      F m = F' here m

      mine : Fits k.log base passes k.turn k.holder k.dealt id v
      mine = k.fits id v at

      w : View
      w = entered v k.log

      Tells : Me (Option C) View → Bool → Type 0
      Tells m b = MatchBool b ((c : C) × (m.1 ≡ (0, Some c) ∷ []) × Knows stands v c m.0) (m ≡ (v, []))

      hit : k.turn ≡ 0 → F 1
      hit z =
          let home = k.home z in (
            w,
            takes 0 (Some home.0),
            home.1,
            record {
              log = k.log;
              turn = 1;
              holder = id;
              dealt = k.dealt;
              words = refl;
              at_most_two = omega arith;
              home = λ e. absurd (omega arith);
              held = λ one. (id, w, set_there s.views id v w at, refl);
              shut = λ e. absurd (omega arith);
              below = k.below;
              room = k.room;
              fits = fits_set k.log base passes 1 id k.dealt s.views id w (λ j u apart e. nobody k z j u (k.fits j u e))
                  record { same = mine.same; begins = begins_self k.log; one = heard_nothing k.log base passes v.numbers; other = heard_nothing k.log base passes v.numbers; parts = λ n h. absurd (off h); calls = refl; holds = λ t. (refl, refl, refl); first = mine.first; drawn = mine.drawn };
              apart = apart_set s.views id v w at (λ n h. h) k.apart;
            },
            subst (Tells (w, (0, Some home.0) ∷ [])) (sym (eq-eqb k.turn 0 z))
                (home.0, refl, (refl, subst (λ b. stands home.0 b k.log) (sym (mine.same live).0) home.2, mine.begins, mine.calls, below_up k.dealt v.passes k.log (let p = (mine.same live).1 in let r = k.room in omega arith) k.below)),
          )
        where
          nobody : (k : Kept stands base passes s) → k.turn ≡ 0 → (j : ℕ) (u : View) → Fits k.log base passes k.turn k.holder k.dealt j u → Fits k.log base passes 1 id k.dealt j u
          nobody k z j u f = record { same = f.same; begins = f.begins; one = f.one; other = f.other; parts = f.parts; calls = f.calls; holds = λ t. let one = (f.holds t).1 in absurd (omega arith); first = f.first; drawn = f.drawn }

      miss : k.turn ≢ 0 → F k.turn
      miss ne = (v, keeps, tt, still s k id v at, subst (Tells (v, [])) (sym (ne_eqb k.turn 0 ne)) refl)

  -- the same taking of the lock, for a seat whose slot is known to be empty
  pub take_turn_as : (id : ℕ) (me : Me (Option C) View) → me.0.turn ≡ false → me.1 ≡ [] → me.0.live ≡ true → Allows (Kept stands base passes) 1 id me 1 (λ n. either (n == 0) 1 n) (Takes stands (step 1 1 0 1 none) me)
  take_turn_as id me free empty live = subst (λ l. Allows (Kept stands base passes) 1 id (me.0, l) 1 (λ n. either (n == 0) 1 n) (Takes stands (step 1 1 0 1 maybe.none) (me.0, l))) (sym empty) (take_turn id me.0 free live)

  -- what another seat's view says, where this seat held the lock
  other_idle : (s : State (Option C) View) (k : Kept stands base passes s) (id : ℕ) (v : View) → get_elem? s.views id ≡ some v → v.turn ≡ true → (j : ℕ) (u : View) → j ≢ id → get_elem? s.views j ≡ some u → u.turn ≡ true → ⊥
  other_idle s k id v at on j u apart e t = apart (((k.fits j u e).holds t).0 ∙ sym ((k.fits id v at).holds on).0)

  -- a seat with the lock reads the count, which is the length of the history
  pub reads : (id : ℕ) (me : Me (Option C) View) → me.0.turn ≡ true → Allows (Kept stands base passes) 1 id me 0 (λ n. n) (Reads (step 1 0 0 0 maybe.none) me)
  reads id me on s k wide at small = subst P (sym k.words) (me.0, keeps, tt, still s k id me.0 at, (refl, ap length (sym ((k.fits id me.0 at).holds on).2)))
    where
      P : List ℕ → Type 0
      P ws = (w : View) × (a : Act (Option C)) × Valid s.homes me.1 a × Kept stands base passes record { words = slice_set ws 0 (slice_index ws 0); homes = homes_after s.homes me.1 a; views = slice_set s.views id w }
          × Reads (step 1 0 0 0 maybe.none) me (slice_index ws 0) (w, carried_after me.1 a)

  -- a seat with the lock counts a call of its own, which becomes the last of the history
  pub counts : (id : ℕ) (me : Me (Option C) View) (e : Step) → me.0.turn ≡ true → me.0.live ≡ true → has me.0.numbers e.pass ≡ true → length me.0.seen + 1 < 18446744073709551616 → Allows (Kept stands base passes) 1 id me 0 (λ n. (n + 1) % 2 ^ 64) (Counts e (step 1 0 1 0 maybe.none) me)
  counts id me e on live own room s k wide at small = subst P (sym k.words) (w, keeps, tt, after, (refl, below))
    where
      P : List ℕ → Type 0
      P ws = (w : View) × (a : Act (Option C)) × Valid s.homes me.1 a × Kept stands base passes record { words = slice_set ws 0 ((slice_index ws 0 + 1) % 2 ^ 64); homes = homes_after s.homes me.1 a; views = slice_set s.views id w }
          × Counts e (step 1 0 1 0 maybe.none) me (slice_index ws 0) (w, carried_after me.1 a)

      w : View
      w = with_call e me.0

      mine : Fits k.log base passes k.turn k.holder k.dealt id me.0
      mine = k.fits id me.0 at

      same : me.0.seen ≡ k.log
      same = (mine.holds on).2

      log : List Step
      log = k.log ++ e ∷ []

      others : (j : ℕ) (u : View) → j ≢ id → get_elem? s.views j ≡ some u → Fits log base passes k.turn k.holder k.dealt j u
      others j u apart at' =
          let f = k.fits j u at' in
          let none_of : has u.numbers e.pass ≡ false = not_true (has u.numbers e.pass) (λ h. apart (k.apart j id u me.0 at' at e.pass h own)) in
          record {
            same = f.same;
            begins = begins_more u.seen k.log e f.begins;
            one = heard_more k.log base passes u.numbers u.one e none_of f.one;
            other = heard_more k.log base passes u.numbers u.other e none_of f.other;
            parts = f.parts;
            calls = calls_by-other u.numbers k.log e none_of ∙ f.calls;
            holds = λ t. absurd (other_idle s k id me.0 at on j u apart at' t);
            first = f.first;
            drawn = f.drawn;
          }

      below : Below me.0.passes (me.0.seen ++ e ∷ [])
      below = subst (λ l. Below me.0.passes (l ++ e ∷ [])) (sym same) (below_up k.dealt me.0.passes log (let p = (mine.same live).1 in let r = k.room in omega arith) (below-more k.dealt k.log e k.below (mine.drawn e.pass own)))

      after : Kept stands base passes record { words = (length k.log + 1) % 2 ^ 64 ∷ k.turn ∷ []; homes = s.homes; views = set s.views id w }
      after = record {
        log = log;
        turn = k.turn;
        holder = k.holder;
        dealt = k.dealt;
        words = let n : length me.0.seen ≡ length k.log = ap length same in ap (λ (m : ℕ). m ∷ k.turn ∷ []) (omega (arith, length-append k.log (e ∷ [])));
        at_most_two = k.at_most_two;
        home = λ z. let one = (mine.holds on).1 in absurd (omega arith);
        held = λ one. held_set s.views id me.0 w at (λ t. t) (k.held one);
        shut = k.shut;
        below = below-more k.dealt k.log e k.below (mine.drawn e.pass own);
        room = k.room;
        fits = fits_set log base passes k.turn k.holder k.dealt s.views id w others
            record {
              same = mine.same;
              begins = subst (λ l. IsPrefix (l ++ e ∷ []) log) (sym same) (begins_self log);
              one = heard_nothing log base passes me.0.numbers;
              other = heard_nothing log base passes me.0.numbers;
              parts = λ n h. absurd (off h);
              calls = ap (λ l. calls_by me.0.numbers (l ++ e ∷ [])) (sym same);
              holds = λ t. let h = mine.holds on in (h.0, h.1, ap (λ l. l ++ e ∷ []) same);
              first = mine.first;
              drawn = mine.drawn;
            };
        apart = apart_set s.views id me.0 w at (λ n h. h) k.apart;
      }

  -- the call that is counted is one of which something is true
  pub counts_one : (id : ℕ) (me : Me (Option C) View) (P : Step → Type 0) (e : Step) → P e → me.0.turn ≡ true → me.0.live ≡ true → has me.0.numbers e.pass ≡ true → length me.0.seen + 1 < 18446744073709551616 → Allows (Kept stands base passes) 1 id me 0 (λ n. (n + 1) % 2 ^ 64) (CountsOne P (step 1 0 1 0 maybe.none) me)
  counts_one id me P e picked on live own room s k wide at small = let r = counts id me e on live own room s k wide at small in (r.0, r.1, r.2, r.3, (e, picked, r.4))

  -- a seat releases the lock and puts the channel back
  pub leaves : (id : ℕ) (me : Me (Option C) View) (c : C) → me.0.turn ≡ true → me.0.live ≡ true → me.1 ≡ (0, Some c) ∷ [] → stands c me.0.base me.0.seen → Allows (Kept stands base passes) 1 id me 1 (λ _. 0) (λ _. Leaves (step 1 1 0 0 maybe.none) me 0)
  leaves id me c on live out ok = subst Q (sym out) go
    where
      Q : List (ℕ × Option C) → Type 0
      Q l = Allows (Kept stands base passes) 1 id (me.0, l) 1 (λ _. 0) (λ _. Leaves (step 1 1 0 0 maybe.none) (me.0, l) 0)

      go : Q ((0, Some c) ∷ [])
      go s k wide at small = subst P (sym k.words) (idle me.0, gives, tt, after, refl)
        where
          P : List ℕ → Type 0
          P ws = (w : View) × (a : Act (Option C)) × Valid s.homes ((0, Some c) ∷ []) a × Kept stands base passes record { words = slice_set ws 1 0; homes = homes_after s.homes ((0, Some c) ∷ []) a; views = slice_set s.views id w }
              × Leaves (step 1 1 0 0 maybe.none) (me.0, (0, Some c) ∷ []) 0 (w, carried_after ((0, Some c) ∷ []) a)

          mine : Fits k.log base passes k.turn k.holder k.dealt id me.0
          mine = k.fits id me.0 at

          others : (j : ℕ) (u : View) → j ≢ id → get_elem? s.views j ≡ some u → Fits k.log base passes 0 k.holder k.dealt j u
          others j u apart at' =
              let f = k.fits j u at' in
              record { same = f.same; begins = f.begins; one = f.one; other = f.other; parts = f.parts; calls = f.calls; holds = λ t. absurd (other_idle s k id me.0 at on j u apart at' t); first = f.first; drawn = f.drawn }

          after : Kept stands base passes record { words = length k.log ∷ 0 ∷ []; homes = set s.homes 0 (some (Some c)); views = set s.views id (idle me.0) }
          after = record {
            log = k.log;
            turn = 0;
            holder = k.holder;
            dealt = k.dealt;
            words = refl;
            at_most_two = omega arith;
            held = λ e. absurd (omega arith);
            shut = λ e. absurd (omega arith);
            home = λ z. (c, set_here s.homes 0 (some (Some c)) (omega arith), subst (λ l. stands c base l) (mine.holds on).2 (subst (λ b. stands c b me.0.seen) (mine.same live).0 ok));
            below = k.below;
            room = k.room;
            fits = fits_set k.log base passes 0 k.holder k.dealt s.views id (idle me.0) others
                record { same = mine.same; begins = mine.begins; one = mine.one; other = mine.other; parts = mine.parts; calls = mine.calls; holds = λ t. absurd (off t); first = mine.first; drawn = mine.drawn };
            apart = apart_set s.views id me.0 (idle me.0) at (λ n h. h) k.apart;
          }

  -- a seat shuts the table and leaves the slot empty
  pub shuts : (id : ℕ) (me : Me (Option C) View) → me.0.turn ≡ true → me.1 ≡ (0, None) ∷ [] → Allows (Kept stands base passes) 1 id me 1 (λ _. 2) (λ _. Leaves (step 1 1 2 0 maybe.none) me 2)
  shuts id me on out = subst Q (sym out) go
    where
      Q : List (ℕ × Option C) → Type 0
      Q l = Allows (Kept stands base passes) 1 id (me.0, l) 1 (λ _. 2) (λ _. Leaves (step 1 1 2 0 maybe.none) (me.0, l) 2)

      go : Q ((0, None) ∷ [])
      go s k wide at small = subst P (sym k.words) (idle me.0, gives, tt, after, refl)
        where
          P : List ℕ → Type 0
          P ws = (w : View) × (a : Act (Option C)) × Valid s.homes ((0, None) ∷ []) a × Kept stands base passes record { words = slice_set ws 1 2; homes = homes_after s.homes ((0, None) ∷ []) a; views = slice_set s.views id w }
              × Leaves (step 1 1 2 0 maybe.none) (me.0, (0, None) ∷ []) 2 (w, carried_after ((0, None) ∷ []) a)

          mine : Fits k.log base passes k.turn k.holder k.dealt id me.0
          mine = k.fits id me.0 at

          others : (j : ℕ) (u : View) → j ≢ id → get_elem? s.views j ≡ some u → Fits k.log base passes 2 k.holder k.dealt j u
          others j u apart at' =
              let f = k.fits j u at' in
              record { same = f.same; begins = f.begins; one = f.one; other = f.other; parts = f.parts; calls = f.calls; holds = λ t. absurd (other_idle s k id me.0 at on j u apart at' t); first = f.first; drawn = f.drawn }

          after : Kept stands base passes record { words = length k.log ∷ 2 ∷ []; homes = set s.homes 0 (some None); views = set s.views id (idle me.0) }
          after = record {
            log = k.log;
            turn = 2;
            holder = k.holder;
            dealt = k.dealt;
            words = refl;
            at_most_two = omega arith;
            home = λ z. absurd (omega arith);
            held = λ e. absurd (omega arith);
            shut = λ two. set_here s.homes 0 (some None) (omega arith);
            below = k.below;
            room = k.room;
            fits = fits_set k.log base passes 2 k.holder k.dealt s.views id (idle me.0) others
                record { same = mine.same; begins = mine.begins; one = mine.one; other = mine.other; parts = mine.parts; calls = mine.calls; holds = λ t. absurd (off t); first = mine.first; drawn = mine.drawn };
            apart = apart_set s.views id me.0 (idle me.0) at (λ n h. h) k.apart;
          }

  -- a seat that emptied its channel's place fills it again and releases the lock
  pub leaves_as : (id : ℕ) (me me' : Me (Option C) View) (c : C) → me.0.turn ≡ true → me.0.live ≡ true → me.1 ≡ (0, None) ∷ [] → stands c me.0.base me.0.seen → me' ≡ (me.0, (0, Some c) ∷ rest me.1)
      → Allows (Kept stands base passes) 1 id me' 1 (λ _. 0) (λ _. Leaves (step 1 1 0 0 maybe.none) me' 0)
  leaves_as id me me' c on live out ok new = subst (λ (m : Me (Option C) View). Allows (Kept stands base passes) 1 id m 1 (λ _. 0) (λ _. Leaves (step 1 1 0 0 maybe.none) m 0))
      (sym (new ∙ ap (λ l. (me.0, (0, Some c) ∷ rest l)) out)) (leaves id (me.0, (0, Some c) ∷ []) c on live refl ok)

module _ {C : Type 0} where
  first : List (ℕ × Option C) → Option C
  first [] = None
  first (x ∷ xs) = x.1

  -- the seat that took the lock holds the channel
  pub holds_it : (stands : C → Opening → List Step → Type 0) (me m : Me (Option C) View) → Takes stands (step 1 1 0 1 maybe.none) me 0 m → (x : Option C) × (m.1 ≡ (0, x) ∷ rest m.1)
  holds_it stands me m t = (Some t.0, t.1 ∙ ap (λ l. (0, Some t.0) ∷ l) (sym (ap rest t.1)))

  -- it has taken the channel out
  pub took : (stands : C → Opening → List Step → Type 0) (me m m' : Me (Option C) View) (r : Option C) → me.1 ≡ [] → Takes stands (step 1 1 0 1 maybe.none) me 0 m → m.1 ≡ (0, r) ∷ rest m.1 → m' ≡ (m.0, (0, None) ∷ rest m.1)
      → MatchOption r (m' ≡ me) (λ c. (m'.1 ≡ (0, None) ∷ []) × Knows stands me.0 c m'.0)
  unfolding first
  took stands me m m' r empty t is new = subst (λ o. MatchOption o (m' ≡ me) (λ c. (m'.1 ≡ (0, None) ∷ []) × Knows stands me.0 c m'.0)) (ap first (sym t.1 ∙ is))
      (ap (λ (x : Me (Option C) View). x.1) new ∙ ap (λ l. (0, None) ∷ l) (ap rest t.1 ∙ empty), subst (λ w. Knows stands me.0 t.0 w) (sym (ap (λ (x : Me (Option C) View). x.0) new)) t.2)
