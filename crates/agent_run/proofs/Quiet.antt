-- After the join of a run's workers nobody puts.
use Rattle.std.proofs.Common.{◌≡◌, ◌∙◌, ◌++◌, ◌||◌, ℕ, List, [], ◌∷◌, Bool, true, false, Option, Result, Ok, Err, get_or, refl, sym, ap, subst, append_assoc}
use Rattle.std.proofs.lemmas.Bool.{eq-eqb}
use Rattle.std.proofs.lemmas.List.{append-nil, append_cancel_left}
use Rattle.std.specs.List.{AllByRecursion}
use mathlib.Core.Logic.{dite}
use native.Mathlib.Decide.{ℕ_discrete}
use Rattle.agent_end.specs.declared.draining.ChannelDrain.{ChannelDrain}
use Rattle.channel_face.specs.Faces.{Own}
use Rattle.channel_face.specs.History.{Opening, Step, opening, reopen_reply, state_after}
use Rattle.channel_face.specs.Keeps.{is_spent_check, is_spent_open, is_spent_prune}
use Rattle.channel_face.specs.Machine.{Call, Checkpoint, Prune, Reopen, State, after}
use Rattle.channel_face.specs.declared.replies.OpenCause.{OpenCause}
use Rattle.shared_channel.specs.Calls.{Answers, step}
use Rattle.shared_channel.specs.Passes.{Known}
use Rattle.shared_channel.specs.Ports.{AreUnder, own_calls, own_if}
use Rattle.shared_channel.proofs.Porting.{own-append}
use Rattle.sink_worker.specs.Rounds.{Told}
use Rattle.sink_worker.specs.declared.worker.SinkWorker.{SinkWorker}
use Rattle.channel_lock.specs.Calls.{Below, calls_by, has, keep}
use Rattle.channel_lock.specs.Turns.{HasAll, MadeInTurn}
use Rattle.channel_lock.specs.Views.{View}
use Rattle.channel_lock.proofs.Histories.{all_own, begins_self, calls_by-append}
use Rattle.two_channels.specs.Shares.{KeepsIn, MendsIn}
use Rattle.two_channels.specs.declared.shared.EitherShared.{EitherShared}
use Rattle.two_channels.specs.declared.shared.EitherShared.TheVariants as share
use Rattle.run_tracks.specs.Drained.{called_in}
use Rattle.run_tracks.specs.Stops.{IsKept, KeptIf}
use Rattle.run_tracks.specs.Tracks.{Track}
use Rattle.agent_run.specs.DrainedTold.{IsNoPut}
use Rattle.run_settling.specs.Draining.{IsDrainedAt, IsDrainedHome, IsSinkHome}
use Rattle.run_settling.specs.declared.at_home.AtHome.{AtHome}
use Rattle.agent_run.proofs.TakesOnly.{PutNone, drain_takes}

-- none of these calls puts
abbrev pub NonePuts : List Step → Type 0
NonePuts h = AllByRecursion (λ (step : Step). IsNoPut step.call) h

none_more : (a b : List Step) → NonePuts a → NonePuts b → NonePuts (a ++ b)
none_more [] b p q = q
none_more (x ∷ a) b p q = (p.0, none_more a b p.1 q)

-- What the one has seen begins what the other has, and no further call with one of its numbers puts.
pub record IsQuiet (v w : View) : Type 0 where
  pub base : w.base ≡ v.base
  pub passes : w.passes ≡ v.passes
  pub numbers : w.numbers ≡ v.numbers
  pub rest : List Step
  pub whole : v.seen ++ rest ≡ w.seen
  pub none : NonePuts (calls_by v.numbers rest)

-- where nothing further was seen, no further call puts
pub quiet_self : (v : View) → IsQuiet v v
quiet_self v = record { base = refl; passes = refl; numbers = refl; rest = []; whole = append-nil v.seen; none = tt }

-- where no further call puts in two steps, none does over both
pub quiet_then : (u v w : View) → IsQuiet u v → IsQuiet v w → IsQuiet u w
quiet_then u v w f g = record {
  base = g.base ∙ f.base;
  passes = g.passes ∙ f.passes;
  numbers = g.numbers ∙ f.numbers;
  rest = f.rest ++ g.rest;
  whole = sym (append_assoc u.seen f.rest g.rest) ∙ ap (λ (l : List Step). l ++ g.rest) f.whole ∙ g.whole;
  none = subst NonePuts (sym (calls_by-append u.numbers f.rest g.rest))
      (none_more (calls_by u.numbers f.rest) (calls_by u.numbers g.rest) f.none (subst (λ (ns : List ℕ). NonePuts (calls_by ns g.rest)) f.numbers g.none));
}

-- ---- drainings

rest_of : (b : Bool) (o : Own) (own : List Own) → PutNone (own_if b o own) → PutNone own
rest_of true o own all = all.1
rest_of false o own all = all

has_self : (n : ℕ) → has (n ∷ []) n ≡ true
has_self n = ap (λ (b : Bool). b || false) (eq-eqb n n refl)

-- where all calls with some numbers carry one of them, those are that one's own
under_own : (ns : List ℕ) (n : ℕ) (h : List Step) (s : State) → AreUnder n (calls_by ns h) → PutNone (own_calls (n ∷ []) s h) → NonePuts (calls_by ns h)
under_own ns n [] s all none = tt
under_own ns n (x ∷ h) s all none = by (has ns x.pass) all (λ rest. under_own ns n h (after s x.call) rest (rest_of (has (n ∷ []) x.pass) o more none))
  where
    o : Own
    o = record { call = x.call; before = s; moment = x.moment }

    more : List Own
    more = own_calls (n ∷ []) (after s x.call) h

    by : (b : Bool) → AreUnder n (keep b x (calls_by ns h)) → (AreUnder n (calls_by ns h) → NonePuts (calls_by ns h)) → NonePuts (keep b x (calls_by ns h))
    by false all others = others all
    by true all others =
        let mine : has (n ∷ []) x.pass ≡ true = subst (λ (k : ℕ). has (n ∷ []) k ≡ true) (sym all.0) (has_self n) in
        ((subst (λ (b : Bool). PutNone (own_if b o more)) mine none).0, others all.1)

module _ {S C : Type 0} (sink : Told S) (moments : C → Option (ℕ → ℕ)) where
  -- a draining puts nothing into the channel that it drains
  pub drained_quiet : (w : SinkWorker AtHome S C) (old : Known) (end : ChannelDrain) (back : S) (new : Known) → has old.view.numbers w.port.number ≡ true
      → IsDrainedHome sink moments w old end back new → IsQuiet old.view new.view
  drained_quiet w old end back new mine did =
      let n = w.port.number in
      let t : Track = record { start = new.view.base; whole = new.view.seen; number = n; own = [] } in
      let mine' : has new.view.numbers n ≡ true = subst (λ (l : List ℕ). has l n ≡ true) (sym did.later.numbers) mine in
      let drains = (did.track (record t { own = called_in t new }) (record { has_it = mine'; now = refl; start = refl; own = refl; within = begins_self new.view.seen })).1 in
      let drew = drain_takes sink w.batch end _ _ drains in
      let rest = did.later.begins.0 in
      let whole = did.later.begins.1 in
      let start = opening old.view.base in
      let own_old = own_calls (n ∷ []) start old.view.seen in
      let own_rest = own_calls (n ∷ []) (state_after start old.view.seen) rest in
      let seen : own_calls (n ∷ []) start (old.view.seen ++ rest) ≡ own_old ++ drew.more =
      ap (own_calls (n ∷ []) start) whole ∙ (λ i. own_calls (n ∷ []) (opening (sym did.later.base i)) new.view.seen) ∙ drew.is in
      let same : own_rest ≡ drew.more = append_cancel_left own_old own_rest drew.more (sym (own-append (n ∷ []) start old.view.seen rest) ∙ seen) in
      record {
        base = did.later.base;
        passes = did.later.passes;
        numbers = did.later.numbers;
        rest = rest;
        whole = whole;
        none = under_own old.view.numbers n rest (state_after start old.view.seen) did.later.under (subst PutNone (sym same) drew.none);
      }

  -- nor into the channel at any other place
  pub quiet_at : (w : SinkWorker AtHome S C) (old : List Known) (end : ChannelDrain) (back : S) (new : List Known) → IsSinkHome old w → IsDrainedAt sink moments w old end back new
      → (place : ℕ) (d : Known) → IsQuiet (get_or old place d).view (get_or new place d).view
  quiet_at w old end back new at did place d = dite (ℕ_discrete w.channel place)
      (λ same. subst (λ (k : ℕ). IsQuiet (get_or old k d).view (get_or new k d).view) same
      (drained_quiet w (get_or old w.channel d) end back (get_or new w.channel d) (at.1 d) (did.home d)))
      (λ other. subst (λ (q : Known). IsQuiet (get_or old place d).view q.view) (sym (did.others place d ((λ e. other (sym e)), tt))) (quiet_self (get_or old place d).view))

-- ---- what channels are called at the stop

made_quiet : (v w : View) (es : List Step) → NonePuts es → MadeInTurn v es w → IsQuiet v w
made_quiet v w es none is =
    let rest = is.0 ++ es in
    let whole : v.seen ++ rest ≡ w.seen = sym (append_assoc v.seen is.0 es) ∙ sym is.2 in
    let calls : calls_by v.numbers v.seen ++ calls_by v.numbers rest ≡ calls_by v.numbers v.seen ++ es =
    sym (calls_by-append v.numbers v.seen rest) ∙ ap (calls_by v.numbers) whole ∙ is.3 in
    record {
      base = ap (λ (x : View). x.base) is.1;
      passes = ap (λ (x : View). x.passes) is.1;
      numbers = ap (λ (x : View). x.numbers) is.1;
      rest = rest;
      whole = whole;
      none = subst NonePuts (sym (append_cancel_left (calls_by v.numbers v.seen) (calls_by v.numbers rest) es calls)) none;
    }

module _ {A : Type 0} (disk : A → Opening → List Step → Type 0) (tells : A → Bool) (moment : A → ℕ) where
  answered_quiet : (spent : Bool) (v w : View) (by : ℕ) (call : Call) → IsNoPut call → Answers disk tells moment spent v by call w → IsQuiet v w
  answered_quiet true v w by call none is = made_quiet v w [] tt is.0.1.made
  answered_quiet false v w by call none is = made_quiet v w (step by call (moment is.0.0) ∷ []) (none, tt) is.0.1.made

  module _ (laid : A → State → Type 0) (pruned : A → Type 0) {B : Type 0} where
    kept_quiet : (s : EitherShared A B) (v w : View) (by : ℕ) → KeepsIn disk tells moment laid pruned s v by w → IsQuiet v w
    kept_quiet (share.Disk s) v w by is =
        quiet_then v is.between w (answered_quiet (is_spent_check is.check) v is.between by (Checkpoint is.check) tt is.checks)
        (answered_quiet (is_spent_prune is.prune) is.between w by (Prune is.prune) tt is.prunes)
    kept_quiet (share.Memory s) v w by same = subst (IsQuiet v) (sym same) (quiet_self v)

    -- where it was to be kept, or else
    pub kept_if_quiet : (s : EitherShared A B) (b : Bool) (p q : Known) → KeptIf b (IsKept disk tells moment laid pruned s) p q → IsQuiet p.view q.view
    kept_if_quiet s true p q is = kept_quiet s p.view q.view p.number is.keeps
    kept_if_quiet s false p q same = subst (λ (k : Known). IsQuiet p.view k.view) (sym same) (quiet_self p.view)

  -- a mend puts nothing
  pub mended_quiet : {B : Type 0} (s : EitherShared A B) (v w : View) (by : ℕ) (result : Result Bool OpenCause) → MendsIn disk tells moment s v by result w → IsQuiet v w
  mended_quiet (share.Disk s) v w by (Ok false) is = made_quiet v w [] tt is.0.1.made
  mended_quiet (share.Disk s) v w by (Ok true) is = answered_quiet (is_spent_open is.0) v w by (Reopen (reopen_reply is.0 is.1.0)) tt is.1.1
  mended_quiet (share.Disk s) v w by (Err e) is = answered_quiet (is_spent_open is.0) v w by (Reopen (reopen_reply is.0 is.1.0)) tt is.1.1
  mended_quiet (share.Memory s) v w by result is = subst (IsQuiet v) (sym is.0) (quiet_self v)

-- ---- all numbers

below_rest : (bound : ℕ) (a b : List Step) → Below bound (a ++ b) → Below bound b
below_rest bound [] b below = below
below_rest bound (x ∷ a) b below = below_rest bound a b below.1

-- where a pass has each number, no further call puts
pub none_puts : (v w : View) (is : IsQuiet v w) → HasAll v → Below w.passes w.seen → NonePuts is.rest
none_puts v w is all below =
    subst NonePuts (all_own v.numbers v.passes is.rest all
    (below_rest v.passes v.seen is.rest (subst (λ (x : List Step × ℕ). Below x.1 x.0) (λ i. (sym is.whole i, is.passes i)) below))) is.none
