-- Where own calls are in the whole history.
use Rattle.std.proofs.Common.{◌≡◌, ◌++◌, ◌∷◌, [], ℕ, List, Bool, true, false, refl, sym, ◌∙◌, ap}
use Rattle.channel_face.specs.Faces.{Own}
use Rattle.channel_face.specs.History.{IsRun, Step, state_after}
use Rattle.channel_face.specs.Machine.{State, after}
use Rattle.shared_channel.specs.Ports.{own_calls, own_if}
use Rattle.channel_lock.specs.Calls.{has}

-- After these own calls this one was made, in a history from a state.
pub record IsAt (ns : List ℕ) (s : State) (h : List Step) (a : List Own) (o : Own) : Type 0 where
  pub front : List Step
  pub step : Step
  pub back : List Step
  pub split : h ≡ front ++ step ∷ back
  pub own : own_calls ns s front ≡ a
  pub call : step.call ≡ o.call
  pub before : o.before ≡ state_after s front

head_same : (x y : Own) (a b : List Own) → x ∷ a ≡ y ∷ b → x ≡ y
head_same x y a b is = cc

tail_same : (x y : Own) (a b : List Own) → x ∷ a ≡ y ∷ b → a ≡ b
tail_same x y a b is = cc

none_is : (a : List Own) (o : Own) (b : List Own) → [] ≡ a ++ o ∷ b → ⊥
none_is [] o b is = cc
none_is (p ∷ a) o b is = cc

-- each own call has its place
pub place : (ns : List ℕ) (s : State) (h : List Step) (a : List Own) (o : Own) (b : List Own) → own_calls ns s h ≡ a ++ o ∷ b → IsAt ns s h a o
place ns s [] a o b is = absurd (none_is a o b is)
place ns s (x ∷ h) a o b is = by_own (has ns x.pass) refl a (λ c rest. place ns (after s x.call) h c o b rest) is
  where
    it : Own
    it = record { call = x.call; before = s; moment = x.moment }

    by_own : (own : Bool) → has ns x.pass ≡ own → (a : List Own) → ((c : List Own) → own_calls ns (after s x.call) h ≡ c ++ o ∷ b → IsAt ns (after s x.call) h c o) → own_if own it (own_calls ns (after s x.call) h) ≡ a ++ o ∷ b → IsAt ns s (x ∷ h) a o
    by_own true own [] more is =
        let same = head_same it o (own_calls ns (after s x.call) h) b is in
        record { front = []; step = x; back = h; split = refl; own = refl; call = ap (λ (p : Own). p.call) same; before = ap (λ (p : Own). p.before) (sym same) }
    by_own true own (p ∷ a) more is =
        let rest = more a (tail_same it p (own_calls ns (after s x.call) h) (a ++ o ∷ b) is) in
        let same = head_same it p (own_calls ns (after s x.call) h) (a ++ o ∷ b) is in
        record {
          front = x ∷ rest.front;
          step = rest.step;
          back = rest.back;
          split = ap (λ (l : List Step). x ∷ l) rest.split;
          own = ap (λ (t : Bool). own_if t it (own_calls ns (after s x.call) rest.front)) own ∙ (λ i. same i ∷ rest.own i);
          call = rest.call;
          before = rest.before;
        }
    by_own false own a more is =
        let rest = more a is in
        record {
          front = x ∷ rest.front;
          step = rest.step;
          back = rest.back;
          split = ap (λ (l : List Step). x ∷ l) rest.split;
          own = ap (λ (t : Bool). own_if t it (own_calls ns (after s x.call) rest.front)) own ∙ rest.own;
          call = rest.call;
          before = rest.before;
        }

-- the machine's answers in front, and after

-- the machine's answers to all calls are its answers to the first of them
pub run_front : (tells : Bool) (s : State) (a b : List Step) → IsRun tells s (a ++ b) → IsRun tells s a
run_front tells s [] b run = tt
run_front tells s (x ∷ a) b run = (run.0, run_front tells (after s x.call) a b run.1)

-- so it is with those behind, from the state that the first lead to
pub run_behind : (tells : Bool) (s : State) (a b : List Step) → IsRun tells s (a ++ b) → IsRun tells (state_after s a) b
run_behind tells s [] b run = run
run_behind tells s (x ∷ a) b run = run_behind tells (after s x.call) a b run.1

-- the state after some calls and then further ones
pub state_append : (s : State) (a b : List Step) → state_after s (a ++ b) ≡ state_after (state_after s a) b
state_append s [] b = refl
state_append s (x ∷ a) b = state_append (after s x.call) a b
