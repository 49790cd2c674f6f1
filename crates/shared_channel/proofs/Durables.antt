-- Calls of a channel on a disk, under one lock.
use Rattle.std.proofs.Common.{◌≡◌, ◌⊎◌, inl, inr, ℕ, List, [], length, Result, Ok, Err, OnOk, Bool, true, false, not, refl, sym, ◌∙◌, ap, subst}
use Rattle.std.proofs.lemmas.List.{append-nil}
use Rattle.atomic_table.specs.Seated.{TableId}
use Rattle.channel_face.proofs.Adding.{state-push}
use Rattle.channel_face.specs.Machine.{State, Checkpoint, Reopen, Reopened, AdmitsCheckpoint, AdmitsPrune, AdmitsReopen, after, settle}
use Rattle.channel_face.specs.History.{Opening, Shows, Step, opening, state_after, reopen_reply}
use Rattle.channel_face.specs.declared.replies.Counter.TheVariants.{File, Check, Life, Calls}
use Rattle.channel_face.specs.declared.replies.CheckRefused.{CheckRefused}
use Rattle.channel_face.specs.declared.replies.CheckRefused.TheVariants as CheckNo
use Rattle.channel_face.specs.declared.replies.PruneRefused.{PruneRefused}
use Rattle.channel_face.specs.declared.replies.PruneRefused.TheVariants as PruneNo
use Rattle.channel_face.specs.declared.replies.OpenCause.{OpenCause}
use Rattle.channel_face.specs.declared.replies.OpenCause.TheVariants as OpenNo
use Rattle.channel_lock.specs.Calls.{has}
use Rattle.channel_lock.specs.Views.{View, with_call}
use Rattle.channel_lock.specs.Turns.{Making}
use Rattle.shared_channel.specs.Calls.{SawOf, made_if, state_seen}
use Rattle.shared_channel.specs.Holding.{Holds, IsReleased, Makes, made_by}
use Rattle.shared_channel.specs.Passes.{Known, known, view_of}
use Rattle.shared_channel.specs.declared.shared.Holder.{Holder}
use Rattle.channel_face.specs.Keeps.{is_spent_check, is_spent_prune, is_spent_open}
use Rattle.shared_channel.specs.Durables.{calls_of, WasBroken, TriesReopen, MakesMended, Reopens, Mends}
use Rattle.shared_channel.proofs.Turning.{answers, gone, looks, shows_seen}

-- the machine refuses none of them because no more calls are counted

-- a checkpoint that the machine answers was not refused for want of counted calls
pub check_spares : (s : State) (reply : Result (Unit {0}) CheckRefused) → AdmitsCheckpoint s reply → is_spent_check reply ≡ false
check_spares s (Err (CheckNo.Spent Calls)) may = absurd (let is : Calls ≡ Check = may.1 in cc)
check_spares s reply may = refl

-- a prune that the machine answers was not refused for want of counted calls
pub prune_spares : (s : State) (reply : Result ℕ PruneRefused) → AdmitsPrune s reply → is_spent_prune reply ≡ false
prune_spares s (Err (PruneNo.Spent Calls)) may = absurd may
prune_spares s reply may = refl

no_open : {A B : Type 0} → ((Calls ≡ Life) × A) ⊎ ((Calls ≡ File) × B) → ⊥
no_open (inl h) = let is : Calls ≡ Life = h.0 in cc
no_open (inr h) = let is : Calls ≡ File = h.0 in cc

-- a reopening that the machine answers was not refused for want of counted calls
pub open_spares : (tells : Bool) (s : State) (kept : Reopened) (reply : Result (Unit {0}) OpenCause) → AdmitsReopen tells s (reopen_reply reply kept) → is_spent_open reply ≡ false
open_spares tells s kept (Err (OpenNo.Spent Calls)) may = absurd (no_open may)
open_spares tells s kept reply may = refl

length_made : (spent : Bool) (s : Step) → length (made_if (not spent) s) ≡ calls_of spent
length_made true s = refl
length_made false s = refl

-- what a checkpoint that was laid under the lock has is the state that is seen after it
pub laid_seen : {C : Type 0} (stands : C → Opening → List Step → Type 0) (tells : C → Bool) (table : TableId) (P : State → Type 0) (reply : Result (Unit {0}) CheckRefused) (told : Step) (old : Holder C) (v : View) → Holds stands table old → v ≡ with_call told old.seat.me.0
    → told.call ≡ Checkpoint reply → Shows (stands old.home.channel) (λ s. OnOk reply (P (settle s))) → OnOk reply (P (state_seen v))
laid_seen stands tells table P (Ok done) told old v holds counted call shows =
    let k = old.seat.me.0 in
    let settles : state_seen v ≡ settle (state_seen k) = ap state_seen counted ∙ (state-push (opening k.base) k.seen told ∙ ap (after (state_seen k)) call) in
    subst P (sym settles) (shows_seen stands tells table old (λ s. P (settle s)) holds shows)
laid_seen stands tells table P (Err refused) told old v holds counted call shows = tt

-- From the pass before a lock to its views after it, with a reopening or a mend under the lock.
module _ {C : Type 0} (stands : C → Opening → List Step → Type 0) (tells : C → Bool) (table held : TableId) (number : ℕ) (before after : List View) (p : Known) (is : known table number before ≡ p) (own : has (view_of before).numbers number ≡ true)
    (a b : Holder C) (mine : a.by ≡ number) (making : Making (view_of before) [] a.seat.me.0) (count : ℕ) (released : IsReleased stands tells b after count) (moment : C → ℕ) where
  -- a reopening under the lock is one from the pass before it to the view after it
  pub reopens : (reply : Result (Unit {0}) OpenCause) → TriesReopen stands held moment reply a b → Reopens stands tells moment p.view p.number reply (view_of after)
  reopens reply tried = (tried.0, answers stands tells table held number before after p is own a b mine making count released moment (is_spent_open reply) (Reopen (reopen_reply reply tried.0)) tried.1)

  -- what was so of the channel under the lock is so of one that was seen
  saw_of : (P : C → State → Type 0) (es : List Step) → Makes stands held es a b → P b.home.channel (state_seen b.seat.me.0) → SawOf stands tells P (view_of after)
  saw_of P es makes so =
      let m : Making (view_of before) es b.seat.me.0 = makes.goes_on (view_of before) [] making (ap (has (view_of before).numbers) mine ∙ own) in
      let base : b.seat.me.0.base ≡ (view_of after).base = ap (λ (x : View). x.base) m.1 ∙ sym (ap (λ (x : View). x.base) (released.saw (view_of before) es m)) in
      let seen = (gone stands tells table held number before after p is own a b mine making count released es makes).seen in
      (b.home.channel, seen, subst (λ (x : Opening × List Step). P b.home.channel (state_after (opening x.0) x.1)) (λ i. (base i, sym released.seen i)) so)

  -- the same where the call was answered Ok
  pub saw_ok : {T E : Type 0} (reply : Result T E) (P : C → State → Type 0) (es : List Step) → Makes stands held es a b → OnOk reply (P b.home.channel (state_seen b.seat.me.0)) → OnOk reply (SawOf stands tells P (view_of after))
  saw_ok (Ok done) P es makes so = saw_of P es makes so
  saw_ok (Err refused) P es makes so = tt

  -- the history that was opened is the one that was seen
  based : (es : List Step) → Makes stands held es a b → a.seat.me.0.base ≡ (view_of after).base
  based es makes = ap (λ (x : View). x.base) making.1 ∙ sym (ap (λ (x : View). x.base) (released.saw (view_of before) es (makes.goes_on (view_of before) [] making (ap (has (view_of before).numbers) mine ∙ own))))

  mends_broken : (reply : Result (Unit {0}) OpenCause) → TriesReopen stands held moment reply a b → (state_seen a.seat.me.0).broken ≡ true → Reopens stands tells moment p.view p.number reply (view_of after) × WasBroken (calls_of (is_spent_open reply)) (view_of after)
  mends_broken reply tried broken =
      let s : Step = made_by moment a (Reopen (reopen_reply reply tried.0)) b in
      (reopens reply tried, (a.seat.me.0.seen, made_if (not (is_spent_open reply)) s, released.seen ∙ tried.1.0.seen, length_made (is_spent_open reply) s, subst (λ (o : Opening). (state_after (opening o) a.seat.me.0.seen).broken ≡ true) (based _ tried.1.0) broken))

  -- a mend under the lock is one from the pass before it to the view after it
  pub mends : (result : Result Bool OpenCause) → MakesMended stands held moment result a b → Mends stands tells moment p.view p.number result (view_of after)
  mends (Ok false) made =
      let seen : a.seat.me.0.seen ≡ (view_of after).seen = sym (released.seen ∙ made.0.seen ∙ append-nil a.seat.me.0.seen) in
      (looks stands tells table held number before after p is own a b mine making count released made.0, subst (λ (x : Opening × List Step). (state_after (opening x.0) x.1).broken ≡ false) (λ i. (based [] made.0 i, seen i)) made.1)
  mends (Ok true) made = let m = mends_broken made.0 made.1 made.2 in (made.0, m.0, m.1, made.3)
  mends (Err cause) made = let m = mends_broken made.0 made.1 made.2 in (made.0, m.0, m.1, made.3)

-- what calls a mend made
pub mend_makes : {C : Type 0} (stands : C → Opening → List Step → Type 0) (table : TableId) (moment : C → ℕ) (result : Result Bool OpenCause) (a b : Holder C) → MakesMended stands table moment result a b → (calls : List Step) × Makes stands table calls a b
mend_makes stands table moment (Ok false) a b made = ([], made.0)
mend_makes stands table moment (Ok true) a b made = (_, made.1.1.0)
mend_makes stands table moment (Err cause) a b made = (_, made.1.1.0)
