-- Channels that were kept at the end of a run: their last calls.
use Rattle.std.proofs.Common.{◌≡◌, ◌∙◌, ◌<◌, ◌≤◌, ◌+◌, ◌++◌, ◌-◌, ◌^◌, ℕ, List, [], ◌∷◌, Bool, true, false, Result, Ok, Err, append_assoc, length, length-append, refl, sym, ap, subst, arith}
use Rattle.channel_face.specs.History.{Opening, Step, reopen_reply}
use Rattle.channel_face.specs.Keeps.{is_spent_check, is_spent_open, is_spent_prune}
use Rattle.channel_face.specs.Machine.{Call, Checkpoint, Prune, Reopen, Reopened, State}
use Rattle.channel_face.specs.declared.replies.OpenCause.{OpenCause}
use Rattle.shared_channel.specs.Calls.{Answers, step}
use Rattle.shared_channel.specs.Durables.{Mends}
use Rattle.channel_lock.specs.Calls.{has}
use Rattle.channel_lock.specs.Turns.{HasAll, MadeInTurn}
use Rattle.channel_lock.specs.Views.{View}
use Rattle.channel_lock.proofs.Histories.{all_own, below_front'}
use Rattle.two_channels.specs.Shares.{IsDisk, KeepsIn, MendsIn}
use Rattle.two_channels.specs.declared.shared.EitherShared.{EitherShared}
use Rattle.two_channels.specs.declared.shared.EitherShared.TheVariants as share
use Rattle.agent_run.specs.FoldersTold.{EndsKept, MendCalls}
use Rattle.agent_run.specs.RolledTold.{CountsMore}

-- Through a pass with each number these calls were made, and no others; it still has each number.
record Made (v : View) (es : List Step) (w : View) : Type 0 where
  all : HasAll w
  seen : w.seen ≡ v.seen ++ es

made_all : (v w : View) (es : List Step) → HasAll v → MadeInTurn v es w → Made v es w
made_all v w es all is =
    let numbers = ap (λ (x : View). x.numbers) is.1 in
    let passes = ap (λ (x : View). x.passes) is.1 in
    let front = below_front' v.passes v.seen (is.0 ++ es) w.seen (sym (append_assoc v.seen is.0 es) ∙ sym is.2) is.4 in
    record {
      all = λ n lt. subst (λ (l : List ℕ). has l n ≡ true) (sym numbers) (all n (subst (λ (k : ℕ). n < k) passes lt));
      seen = sym (all_own v.numbers v.passes w.seen all is.4) ∙ is.3 ∙ ap (λ (l : List Step). l ++ es) (all_own v.numbers v.passes v.seen all front);
    }

-- such a call was made, or is spent
record Answered (spent : Bool) (v : View) (call : Call) (w : View) : Type 0 where
  calls : List Step
  made : Made v calls w
  one : spent ≡ false → (e : Step) × (calls ≡ e ∷ []) × (e.call ≡ call)
  none : spent ≡ true → 2 ^ 64 - 1025 ≤ length w.seen

-- it was made where more calls are counted
one_of : (spent : Bool) (v w : View) (call : Call) (a : Answered spent v call w) → (2 ^ 64 - 1025 ≤ length w.seen → ⊥) → (e : Step) × (a.calls ≡ e ∷ []) × (e.call ≡ call)
one_of true v w call a few = absurd (few (a.none refl))
one_of false v w call a few = a.one refl

-- what a mend called
record Mended (v w : View) : Type 0 where
  calls : List Step
  made : Made v calls w
  are : MendCalls calls

-- one call, another one, and the rest
two_more : (u m v w first second rest : List Step) (x y : Step) → m ≡ u ++ first → v ≡ m ++ second → w ≡ v ++ rest → first ≡ x ∷ [] → second ≡ y ∷ [] → w ≡ u ++ x ∷ y ∷ rest
two_more u m v w first second rest x y a b c one other =
    c ∙ ap (λ (l : List Step). l ++ rest) (b ∙ (λ i. a i ++ other i) ∙ ap (λ (l : List Step). (u ++ l) ++ y ∷ []) one)
    ∙ append_assoc (u ++ x ∷ []) (y ∷ []) rest ∙ append_assoc u (x ∷ []) (y ∷ rest)

module _ {A : Type 0} (disk : A → Opening → List Step → Type 0) (tells : A → Bool) (moment : A → ℕ) where
  answered : (spent : Bool) (v w : View) (by : ℕ) (call : Call) → HasAll v → Answers disk tells moment spent v by call w → Answered spent v call w
  answered true v w by call all is = record {
    calls = [];
    made = made_all v w [] all is.0.1.made;
    one = λ e. absurd (let no : true ≡ false = e in cc);
    none = λ e. is.1;
  }
  answered false v w by call all is =
      let last = step by call (moment is.0.0) in
      record {
        calls = last ∷ [];
        made = made_all v w (last ∷ []) all is.0.1.made;
        one = λ e. (last, refl, refl);
        none = λ e. absurd (let no : false ≡ true = e in cc);
      }

  reopened : (spent : Bool) (v w : View) (by : ℕ) (reply : Result Reopened OpenCause) → HasAll v → Answers disk tells moment spent v by (Reopen reply) w → Mended v w
  reopened true v w by reply all is = record { calls = []; made = made_all v w [] all is.0.1.made; are = tt }
  reopened false v w by reply all is =
      let last = step by (Reopen reply) (moment is.0.0) in
      record { calls = last ∷ []; made = made_all v w (last ∷ []) all is.0.1.made; are = (reply, refl) }

  mended : (v w : View) (by : ℕ) (result : Result Bool OpenCause) → HasAll v → Mends disk tells moment v by result w → Mended v w
  mended v w by (Ok false) all is = record { calls = []; made = made_all v w [] all is.0.1.made; are = tt }
  mended v w by (Ok true) all is = reopened (is_spent_open is.0) v w by (reopen_reply is.0 is.1.0) all is.1.1
  mended v w by (Err cause) all is = reopened (is_spent_open is.0) v w by (reopen_reply is.0 is.1.0) all is.1.1

  -- A channel on a disk that was kept and then mended, and of which more calls are counted.
  pub ends_kept : (laid : A → State → Type 0) (pruned : A → Type 0) {B : Type 0} (s : EitherShared A B) (u v w : View) (by by' : ℕ) (result : Result Bool OpenCause) → IsDisk s → HasAll u
      → KeepsIn disk tells moment laid pruned s u by v → MendsIn disk tells moment s v by' result w → CountsMore (length w.seen) → EndsKept w.seen
  ends_kept laid pruned (share.Disk s) u v w by by' result on all is mends counted =
      let first = answered (is_spent_check is.check) u is.between by (Checkpoint is.check) all is.checks in
      let second = answered (is_spent_prune is.prune) is.between v by (Prune is.prune) first.made.all is.prunes in
      let last = mended v w by' result second.made.all mends in
      let a = first.made.seen in
      let b = second.made.seen in
      let c = last.made.seen in
      let long : length w.seen ≡ length v.seen + length last.calls = ap length c ∙ length-append v.seen last.calls in
      let mid : length v.seen ≡ length is.between.seen + length second.calls = ap length b ∙ length-append is.between.seen second.calls in
      let check = one_of (is_spent_check is.check) u is.between (Checkpoint is.check) first (λ many. omega (arith, many, mid, long, counted)) in
      let prune = one_of (is_spent_prune is.prune) is.between v (Prune is.prune) second (λ many. omega (arith, many, long, counted)) in
      record {
        front = u.seen;
        check = check.0;
        prune = prune.0;
        mend = last.calls;
        whole = two_more u.seen is.between.seen v.seen w.seen first.calls second.calls last.calls check.0 prune.0 a b c check.1 prune.1;
        checked = (is.check, check.2);
        pruned = (is.prune, prune.2);
        mends = last.are;
      }
  ends_kept laid pruned (share.Memory s) u v w by by' result on all is mends counted = absurd on
