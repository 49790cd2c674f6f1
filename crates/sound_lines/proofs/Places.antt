-- Where a pass's own calls stand in the whole history.
use Rattle.std.proofs.Common.{◌⊎◌, inl, inr, ◌≡◌, ◌≢◌, ◌++◌, ◌∷◌, [], ℕ, List, Bool, true, false, refl, sym, ◌∙◌, ap, append_assoc}
use Rattle.std.specs.Prelude.{◌==◌}
use Rattle.std.proofs.lemmas.Bool.Decides.{eqb_tells}
use mathlib.Core.List.{IsPrefix}
use Rattle.channel_face.specs.Faces.{Own, one}
use Rattle.channel_face.specs.History.{Step, state_after}
use Rattle.channel_face.specs.Machine.{State, Call, after}
use Rattle.channel_face.proofs.Adding.{state-append, state-push}
use Rattle.channel_lock.specs.Calls.{has}
use Rattle.channel_lock.proofs.Histories.{has_only}
use Rattle.shared_channel.specs.Ports.{own_if, own_calls}
use Rattle.sound_lines.proofs.Course.{AreOthers}

-- From a state on, the next own call of a pass stands behind calls of others.
pub record Next (number : ℕ) (s : State) (h : List Step) (o : Own) (later : List Own) : Type 0 where
  pub others : List Step
  pub step : Step
  pub rest : List Step
  pub whole : h ≡ others ++ step ∷ rest
  pub none : AreOthers number others
  pub by : step.pass ≡ number
  pub call : step.call ≡ o.call
  pub before : state_after s others ≡ o.before
  pub left : own_calls (number ∷ []) (after (state_after s others) step.call) rest ≡ later

same_first : (a b : Own) (x y : List Own) → a ∷ x ≡ b ∷ y → (a ≡ b) × (x ≡ y)
same_first a b x y is = (cc, cc)

none_some : (o : Own) (l : List Own) → [] ≡ o ∷ l → ⊥
none_some o l is = cc

not_own : (number pass : ℕ) → has (number ∷ []) pass ≡ false → pass ≡ number → ⊥
not_own number pass isnt same = from (eqb_tells number pass) isnt
  where
    tt_ff : true ≡ false → ⊥
    tt_ff is = cc

    from : ((number == pass) ≡ true) × (number ≡ pass) ⊎ ((number == pass) ≡ false) × (number ≢ pass) → has (number ∷ []) pass ≡ false → ⊥
    from (inl is) none = tt_ff (rw is.0 at none)
    from (inr other) none = other.1 (sym same)

-- where the first own call of a pass stands among all calls
pub next : (number : ℕ) (s : State) (h : List Step) (o : Own) (later : List Own) → own_calls (number ∷ []) s h ≡ o ∷ later → Next number s h o later
next number s [] o later is = absurd (none_some o later is)
next number s (step ∷ h) o later is = by_pass (has (number ∷ []) step.pass) refl is (next number (after s step.call) h o later)
  where
    by_pass : (b : Bool) → has (number ∷ []) step.pass ≡ b → own_if b (record { call = step.call; before = s; moment = step.moment }) (own_calls (number ∷ []) (after s step.call) h) ≡ o ∷ later
        → (own_calls (number ∷ []) (after s step.call) h ≡ o ∷ later → Next number (after s step.call) h o later) → Next number s (step ∷ h) o later
    by_pass true own is more =
        let same = same_first (record { call = step.call; before = s; moment = step.moment }) o (own_calls (number ∷ []) (after s step.call) h) later is in
        record {
          others = [];
          step = step;
          rest = h;
          whole = refl;
          none = tt;
          by = has_only number step.pass own;
          call = ap (λ (x : Own). x.call) same.0;
          before = ap (λ (x : Own). x.before) same.0;
          left = same.1;
        }
    by_pass false other is more =
        let n = more is in
        record {
          others = step ∷ n.others;
          step = n.step;
          rest = n.rest;
          whole = ap (λ (l : List Step). step ∷ l) n.whole;
          none = (not_own number step.pass other, n.none);
          by = n.by;
          call = n.call;
          before = n.before;
          left = n.left;
        }

-- A place in a history, behind which these own calls of a pass are left.
pub record Place (number : ℕ) (s : State) (h : List Step) (left : List Own) : Type 0 where
  pub front : List Step
  pub back : List Step
  pub whole : front ++ back ≡ h
  pub own : own_calls (number ∷ []) (state_after s front) back ≡ left

-- An own call of a pass at its place in a history. Since a place before it only others called.
pub record Found (number : ℕ) (s : State) (h from : List Step) (call : Call) (before : State) (left : List Own) : Type 0 where
  pub others : List Step
  pub step : Step
  pub rest : List Step
  pub whole : ((from ++ others) ++ step ∷ []) ++ rest ≡ h
  pub none : AreOthers number others
  pub by : step.pass ≡ number
  pub call_is : step.call ≡ call
  pub state : state_after s (from ++ others) ≡ before
  pub own : own_calls (number ∷ []) (state_after s ((from ++ others) ++ step ∷ [])) rest ≡ left

-- where the next own call stands after a place in the history
pub found : (number : ℕ) (s : State) (h : List Step) (call : Call) (before : State) (moment : ℕ) (left : List Own) (p : Place number s h (one call before moment ++ left)) → Found number s h p.front call before left
found number s h call before moment left p =
    let n = next number (state_after s p.front) p.back (record { call = call; before = before; moment = moment }) left p.own in
    let there : state_after s (p.front ++ n.others) ≡ state_after (state_after s p.front) n.others = state-append s p.front n.others in
    record {
      others = n.others;
      step = n.step;
      rest = n.rest;
      whole = append_assoc (p.front ++ n.others) (n.step ∷ []) n.rest ∙ append_assoc p.front n.others (n.step ∷ n.rest) ∙ ap (λ (l : List Step). p.front ++ l) (sym n.whole) ∙ p.whole;
      none = n.none;
      by = n.by;
      call_is = n.call;
      state = there ∙ n.before;
      own = ap (λ (t : State). own_calls (number ∷ []) t n.rest) (state-push s (p.front ++ n.others) n.step ∙ ap (λ (t : State). after t n.step.call) there) ∙ n.left;
    }

-- the front up to it, and with it
abbrev pub until : {number : ℕ} {s : State} {h from : List Step} {call : Call} {before : State} {left : List Own} → Found number s h from call before left → List Step
until {from = from} f = from ++ f.others

-- the calls up to one that was found are a front of the history
pub within : (number : ℕ) (s : State) (h from : List Step) (call : Call) (before : State) (left : List Own) (f : Found number s h from call before left) → IsPrefix ((from ++ f.others) ++ f.step ∷ []) h
within number s h from call before left f = (f.rest, f.whole)

abbrev pub behind : (number : ℕ) (s : State) (h from : List Step) (call : Call) (before : State) (left : List Own) → Found number s h from call before left → Place number s h left
behind number s h from call before left f = record { front = (from ++ f.others) ++ f.step ∷ []; back = f.rest; whole = f.whole; own = f.own }

-- the state behind it
pub state_behind : (number : ℕ) (s : State) (h from : List Step) (call : Call) (before : State) (left : List Own) (f : Found number s h from call before left) → state_after s ((from ++ f.others) ++ f.step ∷ []) ≡ after before call
state_behind number s h from call before left f =
    state-push s (from ++ f.others) f.step ∙ ap (λ (c : Call). after (state_after s (from ++ f.others)) c) f.call_is ∙ ap (λ (t : State). after t call) f.state

-- past some own calls
pub past : (number : ℕ) (s : State) (h : List Step) (earlier left : List Own) → Place number s h (earlier ++ left) → Place number s h left
past number s h [] left p = p
past number s h (o ∷ earlier) left p = past number s h earlier left (behind number s h p.front o.call o.before (earlier ++ left) (found number s h o.call o.before o.moment (earlier ++ left) p))

-- before all calls, all own calls are still to come
pub first_place : (number : ℕ) (s : State) (h : List Step) (left : List Own) → own_calls (number ∷ []) s h ≡ left → Place number s h left
first_place number s h left is = record { front = []; back = h; whole = refl; own = is }
