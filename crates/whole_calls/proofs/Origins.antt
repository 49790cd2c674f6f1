-- Each open transaction was begun by a call of the history.
use Rattle.std.proofs.Common.{◌⊎◌, inl, inr, ◌≡◌, ◌≢◌, ◌<◌, ◌++◌, ◌∷◌, [], ℕ, List, Some, None, Bool, true, false, ◌==◌, ◌||◌, cond, refl, sym, ◌∙◌, ap, subst}
use Rattle.std.proofs.lemmas.Bool.Decides.{eqb_tells}
use Rattle.channel_face.specs.Faces.{Own}
use Rattle.channel_face.specs.History.{IsRun, Opening, Step, opening, state_after}
use Rattle.channel_face.specs.Machine.{Call, State, after, entry_of, with_entry, without_entry}
use Rattle.channel_face.specs.Token.{Token}
use Rattle.channel_face.specs.Sound.{Opened}
use Rattle.channel_face.proofs.Opened.{entry_of-push}
use Rattle.shared_channel.specs.Calls.{state_seen}
use Rattle.shared_channel.specs.Ports.{own_calls, own_if}
use Rattle.shared_channel.proofs.Porting.{own-append}
use Rattle.channel_lock.specs.Calls.{Below, has}
use Rattle.whole_calls.specs.Over.{AreOver, EachIsOver, IsOver, NoneIsOpen}
use Rattle.whole_calls.proofs.Shapes.{Began, Kept, Renewed, Same, Shape, With, Without, begins, entry_other, fresh, is_takes, kept_after, kind, kind_with, kind_without, shape}
use Rattle.whole_calls.proofs.Ending.{Stale, no_puts, no_takes, seen_in}

-- the token of the transaction with this number
abbrev token_of : State → ℕ → Token
token_of t n = record { life = t.life; number = n }

-- A transaction of this kind that is open was open before in this life, or this call began it.
abbrev From : Bool → ℕ → State → Call → State → Type 0
From takes n s call t = ((kind (entry_of n s.opened) ≡ Some takes) × (t.life ≡ s.life)) ⊎ (call ≡ begins takes (token_of t n))

none_some : {A : Type 0} (x : A) → None ≡ Some x → ⊥
none_some x h = cc

kind_fresh : (b takes : Bool) → kind (Some (fresh b)) ≡ Some takes → b ≡ takes
kind_fresh true takes h = cc
kind_fresh false takes h = cc

from_one : (takes : Bool) (n : ℕ) (s : State) (call : Call) (t : State) → Shape s call t → Kept s → kind (entry_of n t.opened) ≡ Some takes → From takes n s call t
from_one takes n s call t (Same l x o) kept h = inl (seen_in takes n t.opened s.opened o h, l)
from_one takes n s call t (With number old new l x is kinds o) kept h = inl (sym (kind_with n number old new s.opened is kinds) ∙ seen_in takes n t.opened (with_entry number new s.opened) o h, l)
from_one takes n s call t (Without number l x o) kept h = inl (kind_without takes n number s.opened kept.1 (seen_in takes n t.opened (without_entry number s.opened) o h), l)
from_one takes n s call t (Began b token is own l x o) kept h = from (eqb_tells s.txn n)
  where
    found : kind (entry_of n (s.opened ++ (s.txn, fresh b) ∷ [])) ≡ Some takes
    found = seen_in takes n t.opened (s.opened ++ (s.txn, fresh b) ∷ []) o h

    from : ((s.txn == n) ≡ true) × (s.txn ≡ n) ⊎ ((s.txn == n) ≡ false) × (s.txn ≢ n) → From takes n s call t
    from (inl same) =
        let it : kind (entry_of s.txn (s.opened ++ (s.txn, fresh b) ∷ [])) ≡ Some takes = subst (λ (k : ℕ). kind (entry_of k (s.opened ++ (s.txn, fresh b) ∷ [])) ≡ Some takes) (sym same.1) found in
        let kinds = kind_fresh b takes (ap kind (sym (entry_of-push s.txn (fresh b) s.opened kept.0)) ∙ it) in
        let its : token ≡ token_of t n = own ∙ (λ i. record { life = sym l i; number = same.1 i }) in
        inr (is ∙ (λ i. begins (kinds i) (its i)))
    from (inr other) = inl (ap kind (sym (entry_other n s.txn (fresh b) s.opened other.1)) ∙ found, l)
from_one takes n s call t (Renewed l o) kept h = absurd (none_some takes (seen_in takes n t.opened [] o h))

-- a step of a history that made this call
pub record Makes (h : List Step) (call : Call) : Type 0 where
  pub front : List Step
  pub step : Step
  pub back : List Step
  pub split : h ≡ front ++ step ∷ back
  pub made : step.call ≡ call

behind : (x : Step) (h : List Step) (call : Call) → Makes h call → Makes (x ∷ h) call
behind x h call m = record { front = x ∷ m.front; step = m.step; back = m.back; split = ap (λ (l : List Step). x ∷ l) m.split; made = m.made }

abbrev next : State → Step → State
next s x = after s x.call

from_run : (tells takes : Bool) (n : ℕ) (s : State) (h : List Step) → IsRun tells s h → Kept s → kind (entry_of n (state_after s h).opened) ≡ Some takes
    → ((kind (entry_of n s.opened) ≡ Some takes) × ((state_after s h).life ≡ s.life)) ⊎ Makes h (begins takes (token_of (state_after s h) n))
from_run tells takes n s [] run kept found = inl (found, refl)
from_run tells takes n s (x ∷ h) run kept found = step (from_run tells takes n (after s x.call) h run.1 (kept_after s x.call (after s x.call) (shape tells s x.call run.0) kept) found)
  where
    here : (state_after (next s x) h).life ≡ (next s x).life → From takes n s x.call (next s x) → ((kind (entry_of n s.opened) ≡ Some takes) × ((state_after (next s x) h).life ≡ s.life)) ⊎ Makes (x ∷ h) (begins takes (token_of (state_after (next s x) h) n))
    here life (inl before) = inl (before.0, life ∙ before.1)
    here life (inr began) = inr (record { front = []; step = x; back = h; split = refl; made = began ∙ (λ i. begins takes (record { life = sym life i; number = n })) })

    step : ((kind (entry_of n (next s x).opened) ≡ Some takes) × ((state_after (next s x) h).life ≡ (next s x).life)) ⊎ Makes h (begins takes (token_of (state_after (next s x) h) n))
        → ((kind (entry_of n s.opened) ≡ Some takes) × ((state_after (next s x) h).life ≡ s.life)) ⊎ Makes (x ∷ h) (begins takes (token_of (state_after (next s x) h) n))
    step (inl now) = here now.1 (from_one takes n s x.call (next s x) (shape tells s x.call run.0) kept now.0)
    step (inr made) = inr (behind x h (begins takes (token_of (state_after (next s x) h) n)) made)

over_at : (s : State) (a : List Own) (o : Own) (b : List Own) → AreOver s (a ++ o ∷ b) → IsOver s o.call
over_at s [] o b all = all.0
over_at s (p ∷ a) o b all = over_at s a o b all.1

below_at : (bound : ℕ) (a : List Step) (x : Step) (b : List Step) → Below bound (a ++ x ∷ b) → x.pass < bound
below_at bound [] x b below = below.0
below_at bound (y ∷ a) x b below = below_at bound a x b below.1

as_stale : (takes : Bool) (s : State) (token : Token) → IsOver s (begins takes token) → Stale takes s token
as_stale true s token over = over
as_stale false s token over = over

not_stale : (takes : Bool) (s : State) (n : ℕ) → kind (entry_of n s.opened) ≡ Some takes → Stale takes s (token_of s n) → ⊥
not_stale true s n found stale = from (eqb_tells s.life s.life)
  where
    from : ((s.life == s.life) ≡ true) × (s.life ≡ s.life) ⊎ ((s.life == s.life) ≡ false) × (s.life ≢ s.life) → ⊥
    from (inl same) = no_takes (entry_of n s.opened) (rw same.0 at stale) found
    from (inr other) = other.1 refl
not_stale false s n found stale = from (eqb_tells s.life s.life)
  where
    from : ((s.life == s.life) ≡ true) × (s.life ≡ s.life) ⊎ ((s.life == s.life) ≡ false) × (s.life ≢ s.life) → ⊥
    from (inl same) = no_puts (entry_of n s.opened) (rw same.0 at stale) found
    from (inr other) = other.1 refl

-- of a list with an entry one is found
nothing_found : (opened : Opened) → ((takes : Bool) (n : ℕ) → kind (entry_of n opened) ≡ Some takes → ⊥) → opened ≡ []
nothing_found [] never = refl
nothing_found (o ∷ opened) never = absurd (never (is_takes o.1) o.0 (from (eqb_tells o.0 o.0)))
  where
    from : ((o.0 == o.0) ≡ true) × (o.0 ≡ o.0) ⊎ ((o.0 == o.0) ≡ false) × (o.0 ≢ o.0) → kind (cond (o.0 == o.0) (Some o.1) (entry_of o.0 opened)) ≡ Some (is_takes o.1)
    from (inl same) = rw same.0 refl
    from (inr other) = absurd (other.1 refl)

-- an opening has none open
pub kept_opening : (start : Opening) → Kept (opening start)
kept_opening start = (tt, tt)

has_one : (n : ℕ) → has (n ∷ []) n ≡ true
has_one n = from (eqb_tells n n)
  where
    from : ((n == n) ≡ true) × (n ≡ n) ⊎ ((n == n) ≡ false) × (n ≢ n) → ((n == n) || false) ≡ true
    from (inl same) = rw same.0 refl
    from (inr other) = absurd (other.1 refl)

-- the step at its place is among the calls of its number
own_at : (ns : List ℕ) (s : State) (h front : List Step) (x : Step) (back : List Step) → h ≡ front ++ x ∷ back → has ns x.pass ≡ true
    → own_calls ns s h ≡ own_calls ns s front ++ record { call = x.call; before = state_after s front; moment = x.moment } ∷ own_calls ns (after (state_after s front) x.call) back
own_at ns s h front x back split is =
    ap (own_calls ns s) split ∙ own-append ns s front (x ∷ back)
    ∙ ap (λ (b : Bool). own_calls ns s front ++ own_if b (record { call = x.call; before = state_after s front; moment = x.moment }) (own_calls ns (after (state_after s front) x.call) back)) is

-- so what it began is over
over_step : (ns : List ℕ) (start : Opening) (whole : List Step) (end : State) → AreOver end (own_calls ns (opening start) whole) → (front : List Step) (x : Step) (back : List Step) → whole ≡ front ++ x ∷ back → has ns x.pass ≡ true → IsOver end x.call
over_step ns start whole end all front x back split is =
    over_at end (own_calls ns (opening start) front) (record { call = x.call; before = state_after (opening start) front; moment = x.moment }) (own_calls ns (after (state_after (opening start) front) x.call) back)
    (subst (AreOver end) (own_at ns (opening start) whole front x back split is) all)

-- where a pass with all numbers leaves none open, none is open
pub none_open : NoneIsOpen
none_open tells home run below every over = nothing_found (state_seen home).opened found
  where
    closed : (takes : Bool) (n : ℕ) → kind (entry_of n (state_seen home).opened) ≡ Some takes → Makes home.seen (begins takes (token_of (state_seen home) n)) → ⊥
    closed takes n is m =
        let low = below_at home.passes m.front m.step m.back (subst (Below home.passes) m.split below) in
        let one = over_step home.numbers home.base home.seen (state_seen home) over m.front m.step m.back m.split (every m.step.pass low) in
        not_stale takes (state_seen home) n is (as_stale takes (state_seen home) (token_of (state_seen home) n) (subst (IsOver (state_seen home)) m.made one))

    found : (takes : Bool) (n : ℕ) → kind (entry_of n (state_seen home).opened) ≡ Some takes → ⊥
    found takes n is = from (from_run tells takes n (opening home.base) home.seen run (kept_opening home.base) is)
      where
        from : ((kind (entry_of n []) ≡ Some takes) × ((state_seen home).life ≡ 1)) ⊎ Makes home.seen (begins takes (token_of (state_seen home) n)) → ⊥
        from (inl before) = none_some takes before.0
        from (inr made) = closed takes n is made

-- of each number, so of all
over_each : (ns : List ℕ) (end s : State) (h : List Step) → ((n : ℕ) → has ns n ≡ true → AreOver end (own_calls (n ∷ []) s h)) → AreOver end (own_calls ns s h)
over_each ns end s [] each = tt
over_each ns end s (x ∷ h) each = by_own (has ns x.pass) refl (over_each ns end (after s x.call) h (λ n is. tail (has (n ∷ []) x.pass) (own_calls (n ∷ []) (after s x.call) h) (each n is)))
  where
    tail : (b : Bool) (own : List Own) → AreOver end (own_if b (record { call = x.call; before = s; moment = x.moment }) own) → AreOver end own
    tail true own all = all.1
    tail false own all = all

    first : (b : Bool) (own : List Own) → b ≡ true → AreOver end (own_if b (record { call = x.call; before = s; moment = x.moment }) own) → IsOver end x.call
    first true own is all = all.0
    first false own is all = absurd (cc)

    by_own : (b : Bool) → has ns x.pass ≡ b → AreOver end (own_calls ns (after s x.call) h) → AreOver end (own_if b (record { call = x.call; before = s; moment = x.moment }) (own_calls ns (after s x.call) h))
    by_own true is rest = (first (has (x.pass ∷ []) x.pass) (own_calls (x.pass ∷ []) (after s x.call) h) (has_one x.pass) (each x.pass is), rest)
    by_own false is rest = rest

-- where none of each single number is open, a pass leaves none open
pub each_over : EachIsOver
each_over home each = over_each home.numbers (state_seen home) (opening home.base) home.seen each
