-- What those who keep a channel call through a pass, from the calls that it makes.
use Rattle.std.proofs.Common.{◌≡◌, ◌∙◌, ℕ, List, [], ◌∷◌, ◌++◌, take, length, length-append, Result, Ok, Err, Bool, true, false, refl, sym, ap, subst, arith}
use Rattle.std.proofs.lemmas.List.{append-nil}
use Rattle.std.proofs.Math.Seq.{take-append_seam}
use Rattle.channel_face.specs.Faces.{IsMade, one}
use Rattle.channel_face.specs.History.{Opening, Step, opening, state_after, reopen_reply}
use Rattle.channel_face.specs.Keeps.{IsCheck, IsLook, IsMend, IsPrune, IsReopened, is_spent_check, is_spent_open, is_spent_prune, mended}
use Rattle.channel_face.specs.Machine.{State, Checkpoint, Prune, Reopen, Reopened}
use Rattle.channel_face.specs.declared.replies.CheckRefused.{CheckRefused}
use Rattle.channel_face.specs.declared.replies.OpenCause.{OpenCause}
use Rattle.channel_face.specs.declared.replies.PruneRefused.{PruneRefused}
use Rattle.channel_lock.proofs.Histories.{nil_of}
use Rattle.channel_lock.specs.Views.{View}
use Rattle.shared_channel.specs.Calls.{Answers, Looks, step, state_seen}
use Rattle.shared_channel.specs.Durables.{Mends, WasBroken, calls_of}
use Rattle.shared_channel.specs.Passes.{Known}
use Rattle.shared_channel.specs.Ports.{Saw, WentBy}
use Rattle.shared_channel.proofs.Porting.{Told, begun, none_made, one_call, one_made, told}

-- a list that ends with one thing, split so that one thing is after
same_front : (a front last : List Step) (x : Step) → a ++ x ∷ [] ≡ front ++ last → length last ≡ 1 → front ≡ a
same_front a front last x all one =
    let many : length front ≡ length a = let e = ap length all in let f = length-append a (x ∷ []) in let g = length-append front last in omega arith in
    sym (take-append_seam front last) ∙ ap (take (length front)) (sym all) ∙ ap (λ (n : ℕ). take n (a ++ x ∷ [])) many ∙ take-append_seam a (x ∷ [])

module _ {C : Type 0} (stands : C → Opening → List Step → Type 0) (tells : C → Bool) (moment : C → ℕ) where
  -- a look that shows this of the state
  looked : (v w : View) (by : ℕ) (P : State → Type 0) → Looks stands tells v w → P (state_seen w) → WentBy by v w (IsLook (Saw stands w) P)
  looked v w by P look shown = let n = none_made stands tells moment v w by look in ([], n.0, (refl, (state_seen w, n.1, shown)))

  -- a reopening of what was broken, which may have been spent
  reopened : (spent : Bool) (v w : View) (by : ℕ) (reply : Result (Unit {0}) OpenCause) (kept : Reopened) (result : Result Bool OpenCause) → is_spent_open reply ≡ spent → Answers stands tells moment spent v by (Reopen (reopen_reply reply kept)) w → WasBroken (calls_of spent) w → result ≡ mended reply
      → WentBy by v w (IsReopened (Saw stands w) (length w.seen) result)
  reopened true v w by reply kept result is a was told =
      let n = none_made stands tells moment v w by a.0 in
      let all : w.seen ≡ was.0 = was.2 ∙ ap (λ (l : List Step). was.0 ++ l) (nil_of was.1 was.3) ∙ append-nil was.0 in
      let broken : (state_seen w).broken ≡ true = subst (λ (l : List Step). (state_after (opening w.base) l).broken ≡ true) (sym all) was.4 in
      let call : IsMade (length w.seen) true (Reopen (reopen_reply reply kept)) (state_seen w) [] = (refl, a.1) in
      ([], n.0, (reply, kept, state_seen w, n.1, broken, subst (λ (b : Bool). IsMade (length w.seen) b (Reopen (reopen_reply reply kept)) (state_seen w) []) (sym is) call, told))
  reopened false v w by reply kept result is a was told =
      let call = Reopen (reopen_reply reply kept) in
      let m = a.0.1.made in
      let s : State = begun v m.0 in
      let x : Step = step by call (moment a.0.0) in
      let base : w.base ≡ v.base = ap (λ (y : View). y.base) m.1 in
      let front : was.0 ≡ v.seen ++ m.0 = same_front (v.seen ++ m.0) was.0 was.1 x (sym m.2 ∙ was.2) was.3 in
      let broken : s.broken ≡ true = subst (λ (p : Opening × List Step). (state_after (opening p.0) p.1).broken ≡ true) (λ i. (base i, front i)) was.4 in
      let made : IsMade (length w.seen) false call s (one call s (moment a.0.0)) = (moment a.0.0, refl) in
      (_, one_made stands tells moment v w by call a.0, (reply, kept, s, refl, broken, subst (λ (b : Bool). IsMade (length w.seen) b call s (one call s (moment a.0.0))) (sym is) made, told))

  mend_goes : (v w : View) (by : ℕ) (result : Result Bool OpenCause) → Mends stands tells moment v by result w → WentBy by v w (IsMend (Unit {0}) (Saw stands w) (length w.seen) result)
  mend_goes v w by (Ok false) m = let l = looked v w by (λ s. s.broken ≡ false) m.0 m.1 in (l.0, l.1, (l.2.0, λ on. l.2))
  mend_goes v w by (Ok true) m = let r = reopened (is_spent_open m.0) v w by m.0 m.1.0 (Ok true) refl m.1.1 m.2 m.3 in (r.0, r.1, (tt, r.2))
  mend_goes v w by (Err cause) m = let r = reopened (is_spent_open m.0) v w by m.0 m.1.0 (Err cause) refl m.1.1 m.2 m.3 in (r.0, r.1, (tt, r.2))

  -- what the clauses of those who keep a channel say

  module _ (p q : Known) (same : (q.table_id ≡ p.table_id) × (q.number ≡ p.number)) where
    -- a look that showed this of the state is told as a look
    pub look_told : (P : State → Type 0) → Looks stands tells p.view q.view → P (state_seen q.view) → Told p q (IsLook (Saw stands q.view) P)
    look_told P look shown = told p q (IsLook (Saw stands q.view) P) same (looked p.view q.view p.number P look shown)

    -- a mend is told as one, whether it reopened the channel or left it
    pub mend_told : (result : Result Bool OpenCause) → Mends stands tells moment p.view p.number result q.view → Told p q (IsMend (Unit {0}) (Saw stands q.view) (length q.view.seen) result)
    mend_told result m = told p q (IsMend (Unit {0}) (Saw stands q.view) (length q.view.seen) result) same (mend_goes p.view q.view p.number result m)

    -- a checkpoint is told as one that was answered so
    pub check_told : (reply : Result (Unit {0}) CheckRefused) → Answers stands tells moment (is_spent_check reply) p.view p.number (Checkpoint reply) q.view → Told p q (λ earlier. IsCheck (length q.view.seen) reply)
    check_told reply a = told p q (λ earlier. IsCheck (length q.view.seen) reply) same (one_call stands tells moment (is_spent_check reply) p.view q.view p.number (Checkpoint reply) a)

    -- a prune is told as one that was answered so
    pub prune_told : (reply : Result ℕ PruneRefused) → Answers stands tells moment (is_spent_prune reply) p.view p.number (Prune reply) q.view → Told p q (λ earlier. IsPrune (length q.view.seen) reply)
    prune_told reply a = told p q (λ earlier. IsPrune (length q.view.seen) reply) same (one_call stands tells moment (is_spent_prune reply) p.view q.view p.number (Prune reply) a)
