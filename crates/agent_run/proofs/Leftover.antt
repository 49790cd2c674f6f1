-- Channels that a mend at the stop left broken.
use Rattle.std.proofs.Common.{◌≡◌, ◌∙◌, ◌-◌, ◌^◌, ◌++◌, ◌⊎◌, inl, inr, ℕ, List, [], ◌∷◌, Bool, true, false, Result, Ok, Err, length, refl, sym, ap, subst, true≢false, append-nil, arith}
use Rattle.channel_face.specs.History.{Opening, Step, opening, reopen_reply}
use Rattle.channel_face.specs.Keeps.{is_spent_open, mended}
use Rattle.channel_face.specs.Machine.{Reopen, Reopened, State}
use Rattle.channel_face.specs.declared.replies.OpenCause.{OpenCause}
use Rattle.channel_face.proofs.Adding.{state-push}
use Rattle.shared_channel.specs.Calls.{Counted, state_seen, step}
use Rattle.shared_channel.specs.Durables.{Reopens, WasBroken, calls_of}
use Rattle.channel_lock.specs.Views.{View}
use Rattle.two_channels.specs.Shares.{IsDisk, MendsIn}
use Rattle.two_channels.specs.declared.shared.EitherShared.{EitherShared}
use Rattle.two_channels.specs.declared.shared.EitherShared.TheVariants as share
use Rattle.agent_run.specs.Causes.{IsLeftBroken, IsSpent}
use Rattle.agent_run.proofs.Mended.{whole_reopened}

no_length : {A : Type 0} (xs : List A) → length xs ≡ 0 → xs ≡ []
no_length [] none = refl
no_length (x ∷ xs) none = absurd (omega arith)

-- the last step of a list is one alone
last_one : {A : Type 0} (xs ys : List A) (x y : A) → xs ++ x ∷ [] ≡ ys ++ y ∷ [] → x ≡ y
last_one [] [] x y same = let e : x ≡ y = cc in e
last_one [] (b ∷ []) x y same = absurd cc
last_one [] (b ∷ c ∷ ys) x y same = absurd cc
last_one (a ∷ []) [] x y same = absurd cc
last_one (a ∷ c ∷ xs) [] x y same = absurd cc
last_one (a ∷ xs) (b ∷ ys) x y same = last_one xs ys x y cc

same_cause : (e c : OpenCause) (x y : Step) → x ≡ y → x.call ≡ Reopen (Err e) → y.call ≡ Reopen (Err c) → e ≡ c
same_cause e c x y same one other =
    let is : Reopen (Err e) ≡ Reopen (Err c) = sym one ∙ ap (λ (s : Step). s.call) same ∙ other in
    let it : e ≡ c = cc in
    it

-- What is known of a channel whose mend was refused for this cause: it is left broken, unless no more calls are counted.
pub record Leaves (cause : OpenCause) (w : View) : Type 0 where
  pub made : is_spent_open (Err cause) ≡ false → IsLeftBroken cause w
  pub spent : is_spent_open (Err cause) ≡ true → IsSpent w

-- the last reopen was refused for this cause, unless it was not made
which : (e c : OpenCause) (v w : View) (spent : Bool) → is_spent_open (Err e) ≡ spent → Leaves e w → IsLeftBroken c w → (e ≡ c) ⊎ (is_spent_open (Err e) ≡ true)
which e c v w true is leaves left = inr is
which e c v w false is leaves left =
    let made = leaves.made is in
    inl (same_cause e c made.last left.last (last_one made.front left.front made.last left.last (sym made.whole ∙ left.whole)) made.refused left.refused)

module _ {A : Type 0} (disk : A → Opening → List Step → Type 0) (tells : A → Bool) (moment : A → ℕ) where
  counted_left : (v w : View) (by : ℕ) (e : OpenCause) (kept : Reopened) (spent : Bool) → is_spent_open (Err e) ≡ spent
      → Counted disk tells moment spent (2 ^ 64 - 1025) v by (Reopen (reopen_reply (Err e) kept)) w → WasBroken (calls_of spent) w → Leaves e w
  counted_left v w by e kept true is did was =
      let none = no_length was.1 was.3 in
      let same : w.seen ≡ was.0 = was.2 ∙ ap (λ (l : List Step). was.0 ++ l) none ∙ append-nil was.0 in
      record {
        made = λ no. absurd (true≢false (sym is ∙ no));
        spent = λ yes. record { many = did.1; broken = ap (λ (l : List Step). (state_seen (record w { seen = l })).broken) same ∙ was.4 };
      }
  counted_left v w by e kept false is did was =
      let made = did.0.1.made in
      let last = step by (Reopen (Err e)) (moment did.0.0) in
      record {
        made = λ no. record {
          front = v.seen ++ made.0;
          last = last;
          whole = made.2;
          refused = refl;
          broken = ap (λ (l : List Step). (state_seen (record w { seen = l })).broken) made.2
              ∙ ap (λ (s : State). s.broken) (state-push (opening w.base) (v.seen ++ made.0) last);
        };
        spent = λ yes. absurd (true≢false (sym yes ∙ is));
      }

  reopen_left : (v w : View) (by : ℕ) (c : OpenCause) (reply : Result (Unit {0}) OpenCause) → Reopens disk tells moment v by reply w → WasBroken (calls_of (is_spent_open reply)) w
      → Err c ≡ mended reply → Leaves c w
  reopen_left v w by c (Ok done) did was same = absurd cc
  reopen_left v w by c (Err e) did was same =
      let is : e ≡ c = cc in
      subst (λ (x : OpenCause). Leaves x w) is (counted_left v w by e did.0 (is_spent_open (Err e)) refl did.1 was)

  -- a refused mend leaves its channel broken
  pub refused_left : {B : Type 0} (s : EitherShared A B) (v w : View) (by : ℕ) (c : OpenCause) → MendsIn disk tells moment s v by (Err c) w → IsDisk s × Leaves c w
  refused_left (share.Disk s) v w by c did = (tt, reopen_left v w by c did.0 did.1 did.2 did.3)
  refused_left (share.Memory s) v w by c did = let same = did.1 in absurd (cc)

  -- Where a channel on a disk is left broken for a cause, its mend was refused for that, or no more calls are counted.
  pub left_refused : {B : Type 0} (s : EitherShared A B) (v w : View) (by : ℕ) (result : Result Bool OpenCause) (c : OpenCause) → IsDisk s → MendsIn disk tells moment s v by result w → IsLeftBroken c w
      → (e : OpenCause) × (result ≡ Err e) × ((e ≡ c) ⊎ (is_spent_open (Err e) ≡ true))
  left_refused (share.Disk s) v w by (Ok false) c on did left = absurd (true≢false (sym left.broken ∙ did.1))
  left_refused (share.Disk s) v w by (Ok true) c on did left = absurd (true≢false (sym left.broken ∙ whole_reopened disk tells moment v w by did.0 did.3 did.1))
  left_refused (share.Disk s) v w by (Err e) c on did left = (e, refl, which e c v w (is_spent_open (Err e)) refl (reopen_left v w by e did.0 did.1 did.2 did.3) left)
  left_refused (share.Memory s) v w by result c on did left = absurd on
