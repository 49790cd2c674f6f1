-- What a pass makes, from what each call of a shared channel answers.
use Rattle.std.proofs.Common.{◌≡◌, ◌≤◌, ◌-◌, ◌^◌, ℕ, List, [], ◌∷◌, ◌++◌, length, inl, inr, Result, Ok, Err, Bool, true, false, refl, sym, ◌∙◌, ap, subst, arith}
use Rattle.std.proofs.lemmas.List.{map-append}
use Rattle.channel_face.specs.Token.{Token}
use Rattle.channel_face.specs.Machine.{State, Call, Flush, after}
use Rattle.channel_face.specs.History.{Opening, Step, Said, by_pass, calls}
use Rattle.channel_face.specs.Calls.{IsCommit, flushed}
use Rattle.channel_face.specs.Faces.{IsMade, Own}
use Rattle.channel_face.specs.declared.replies.Counter.TheVariants.{Calls as CallsCount}
use Rattle.channel_face.specs.declared.replies.CommitRefused.{CommitRefused}
use Rattle.channel_face.specs.declared.replies.CommitRefused.TheVariants.{InDoubt, Stage}
use Rattle.channel_face.specs.declared.replies.FlushRefused.{FlushRefused}
use Rattle.channel_face.specs.declared.replies.StageCause.{StageCause}
use Rattle.channel_face.specs.declared.replies.StageCause.TheVariants.{Spent}
use Rattle.channel_face.specs.declared.replies.Ticket.{Ticket}
use Rattle.channel_lock.specs.Calls.{calls_by, has, keep}
use Rattle.channel_lock.specs.Views.{View}
use Rattle.shared_channel.specs.Calls.{Answers, Commits, Looks, RolledBack, state_seen, step}
use Rattle.shared_channel.specs.Ports.{AreUnder, own_calls, own_if}
use Rattle.shared_channel.proofs.Porting.{begun, goes_as, goes_grows, goes_then, one_call, own_one, puts_none, went_made}
use Rattle.load_gen.specs.Calls.{IsBack, IsCalled, Makes, calls_of}
use Rattle.load_gen.specs.Parts.{IsCommit as IsCommitted}

-- no call
pub makes_none : (by : ℕ) (v : View) (P : List Call → Type 0) → P [] → Makes by v v P
makes_none by v P p = let none = puts_none by v (record { life = 0; number = 0 }) in (none.0, none.1, subst (λ (l : List Own). P (calls_of l)) (sym none.2) p)

-- calls after others
pub makes_then : (by : ℕ) (v w x : View) (P Q R : List Call → Type 0) → Makes by v w P → Makes by w x Q → ((a b : List Call) → P a → Q b → R (a ++ b)) → Makes by v x R
makes_then by v w x P Q R f g join =
    goes_then by v w x (λ earlier own. P (calls_of own)) (λ earlier own. Q (calls_of own)) (λ earlier own. R (calls_of own)) f g
    (λ a b p q. subst R (sym (map-append (λ (o : Own). o.call) a b)) (join (calls_of a) (calls_of b) p q))

-- the same calls, of which something else is true too
pub makes_as : (by : ℕ) (v w : View) (P Q : List Call → Type 0) → Makes by v w P → ((a : List Call) → P a → Q a) → Makes by v w Q
makes_as by v w P Q f more = goes_as by v w (λ earlier own. P (calls_of own)) (λ earlier own. Q (calls_of own)) f (λ a p. more (calls_of a) p)

-- no fewer calls are seen than before
pub makes_grow : (by : ℕ) (v w : View) (P : List Call → Type 0) → Makes by v w P → length v.seen ≤ length w.seen
makes_grow by v w P f = goes_grows by v w (λ earlier own. P (calls_of own)) f

-- a refusal of a call that is spent, seen later
pub called_up : (seen seen' : ℕ) (spent : Bool) (call : Call) (made : List Call) → seen ≤ seen' → IsCalled seen spent call made → IsCalled seen' spent call made
called_up seen seen' false call made le is = is
called_up seen seen' true call made le is = (is.0, let b = is.1 in omega arith)

-- a rollback by its answer
abbrev pub EndsAs : Bool → Call → Type 0 → List Call → Type 0
EndsAs true rollback IsStale made = made ≡ rollback ∷ []
EndsAs false rollback IsStale made = (made ≡ []) × IsStale

back_as : (ended : Bool) (rollback : Call) (IsStale : Type 0) (made : List Call) → EndsAs ended rollback IsStale made → IsBack rollback IsStale made
back_as true rollback IsStale made is = inl is
back_as false rollback IsStale made is = inr is

-- a commit by its answer; one that is spent was not made
abbrev pub CommitsAs : Bool → ℕ → (Result Ticket StageCause → Call) → Token → Result Ticket (CommitRefused Token) → List Call → Type 0
CommitsAs true seen stage token result made = (made ≡ []) × (2 ^ 64 - 1026 ≤ seen) × (result ≡ Err (Stage (record { txn = token; cause = Spent CallsCount })))
CommitsAs false seen stage token result made = IsCommit stage token made result

-- a commit whose stage was refused
abbrev refused_as : Token → StageCause → Result Ticket (CommitRefused Token)
refused_as token cause = Err (Stage (record { txn = token; cause = cause }))

its_txn : Token → Result Ticket (CommitRefused Token) → Token
its_txn token (Err (Stage refused)) = refused.txn
its_txn token result = token

its_cause : StageCause → Result Ticket (CommitRefused Token) → StageCause
its_cause cause (Err (Stage refused)) = refused.cause
its_cause cause result = cause

txn_of : (a b : Token) (c d : StageCause) → refused_as a c ≡ refused_as b d → a ≡ b
unfolding its_txn
txn_of a b c d e = ap (its_txn a) e

cause_of : (a b : Token) (c d : StageCause) → refused_as a c ≡ refused_as b d → c ≡ d
unfolding its_cause
cause_of a b c d e = ap (its_cause c) e

-- a commit that was answered Ok
pub committed : (seen : ℕ) (stage : Result Ticket StageCause → Call) (token : Token) (ticket : Ticket) (made : List Call) → CommitsAs false seen stage token (Ok ticket) made → IsCommitted stage made
committed seen stage token ticket made (inl refused) = absurd (let e = refused.2 in cc)
committed seen stage token ticket made (inr went) = by_flush went.1 went.2 went.3
  where
    by_flush : (reply : Result (Unit {0}) FlushRefused) → made ≡ stage (Ok went.0) ∷ Flush reply ∷ [] → Ok ticket ≡ flushed reply went.0 → IsCommitted stage made
    by_flush (Ok done) is e = (went.0, is)
    by_flush (Err cause) is e = absurd cc

-- one that is in doubt
pub doubted : (seen : ℕ) (stage : Result Ticket StageCause → Call) (token : Token) (made : List Call) → CommitsAs false seen stage token (Err InDoubt) made → (ticket : Ticket) × (cause : FlushRefused) × (made ≡ stage (Ok ticket) ∷ Flush (Err cause) ∷ [])
doubted seen stage token made (inl refused) = absurd (let e = refused.2 in cc)
doubted seen stage token made (inr went) = by_flush went.1 went.2 went.3
  where
    by_flush : (reply : Result (Unit {0}) FlushRefused) → made ≡ stage (Ok went.0) ∷ Flush reply ∷ [] → Err InDoubt ≡ flushed reply went.0 → (ticket : Ticket) × (cause : FlushRefused) × (made ≡ stage (Ok ticket) ∷ Flush (Err cause) ∷ [])
    by_flush (Ok done) is e = absurd cc
    by_flush (Err cause) is e = (went.0, cause, is)

-- one that was not staged
pub unstaged : (spent : Bool) (seen : ℕ) (stage : Result Ticket StageCause → Call) (token other : Token) (cause : StageCause) (made : List Call) → CommitsAs spent seen stage token (Err (Stage (record { txn = other; cause = cause }))) made
    → IsCalled seen spent (stage (Err cause)) made × (other ≡ token)
unstaged true seen stage token other cause made (none, most, e) = ((none, most), txn_of other token cause (Spent CallsCount) e)
unstaged false seen stage token other cause made (inl refused) =
    let e = refused.2 in
    (refused.1 ∙ ap (λ c. stage (Err c) ∷ []) (sym (cause_of other token cause refused.0 e)), txn_of other token cause refused.0 e)
unstaged false seen stage token other cause made (inr went) = absurd (by_flush went.1 went.3)
  where
    by_flush : (reply : Result (Unit {0}) FlushRefused) → Err (Stage (record { txn = other; cause = cause })) ≡ flushed reply went.0 → ⊥
    by_flush (Ok done) e = cc
    by_flush (Err refused) e = cc

called : (seen : ℕ) (spent : Bool) (call : Call) (s : State) (own : List Own) → IsMade seen spent call s own → IsCalled seen spent call (calls_of own)
called seen false call s own is = ap calls_of is.1
called seen true call s own is = (ap calls_of is.0, let b = is.1 in omega arith)

under_all : (by : ℕ) (own : List Said) → AreUnder by (by_pass by own)
under_all by [] = tt
under_all by (x ∷ own) = (refl, under_all by own)

-- of calls with another number none is one's own
none_by : (ns : List ℕ) (by : ℕ) (own : List Said) → has ns by ≡ false → calls_by ns (by_pass by own) ≡ []
none_by ns by [] other = refl
none_by ns by (x ∷ own) other = ap (λ b. keep b (step by x.call x.moment) (calls_by ns (by_pass by own))) other ∙ none_by ns by own other

own_number : (ns : List ℕ) (by : ℕ) (x : Said) (own : List Said) → calls_by ns (by_pass by (x ∷ own)) ≡ by_pass by (x ∷ own) → has ns by ≡ true
own_number ns by x own is = by_own (has ns by) refl
  where
    by_own : (b : Bool) → has ns by ≡ b → has ns by ≡ true
    by_own true e = e
    by_own false e = absurd (let none = sym (none_by ns by (x ∷ own) e) ∙ is in cc)

all_own : (ns : List ℕ) (by : ℕ) (s : State) (own : List Said) → has ns by ≡ true → calls_of (own_calls ns s (by_pass by own)) ≡ calls own
all_own ns by s [] mine = refl
all_own ns by s (x ∷ own) mine =
    let o : Own = record { call = x.call; before = s; moment = x.moment } in
    let rest = own_calls ns (after s x.call) (by_pass by own) in
    ap (λ b. calls_of (own_if b o rest)) mine ∙ ap (λ (l : List Call). x.call ∷ l) (all_own ns by (after s x.call) own mine)

its_calls : (ns : List ℕ) (by : ℕ) (s : State) (own : List Said) → calls_by ns (by_pass by own) ≡ by_pass by own → calls_of (own_calls ns s (by_pass by own)) ≡ calls own
its_calls ns by s [] is = refl
its_calls ns by s (x ∷ own) is = all_own ns by s (x ∷ own) (own_number ns by x own is)

module _ {C : Type 0} (stands : C → Opening → List Step → Type 0) (tells : C → Bool) (moment : C → ℕ) where
  -- one call
  pub makes_one : (spent : Bool) (v w : View) (by : ℕ) (call : Call) → Answers stands tells moment spent v by call w → Makes by v w (IsCalled (length w.seen) spent call)
  makes_one spent v w by call a = let f = one_call stands tells moment spent v w by call a in (f.0, f.1, called (length w.seen) spent call f.2.0 f.0 f.2.1)

  -- a look at the channel
  pub makes_look : (v w : View) (by : ℕ) → Looks stands tells v w → Makes by v w (λ made. made ≡ [])
  makes_look v w by l = ([], went_made by v w [] l.1.made tt, refl)

  -- a rollback
  pub makes_back : (ended : Bool) (v w : View) (by : ℕ) (rollback : Call) (IsStale : State → Type 0) → RolledBack stands tells moment ended v by rollback IsStale w → Makes by v w (EndsAs ended rollback (IsStale (state_seen w)))
  makes_back true v w by rollback IsStale r =
      let c = r.0 in
      let x : Step = step by rollback (moment c) in
      let m = r.1.made in
      let s = begun v m.0 in
      (own_calls v.numbers s (x ∷ []), went_made by v w (x ∷ []) m (refl, tt), ap calls_of (ap (λ b. own_if b (record { call = rollback; before = s; moment = moment c }) []) (own_one v.numbers x m.5)))
  makes_back false v w by rollback IsStale r = ([], went_made by v w [] r.0.1.made tt, (refl, r.1))

  -- calls, and then a rollback of their transaction
  pub back_behind : (ended : Bool) (v w x : View) (by by' : ℕ) (P R : List Call → Type 0) (rollback : Token → Call) (IsStale : Token → State → Type 0) (token other : Token) → Makes by v w P → by' ≡ by → other ≡ token
      → RolledBack stands tells moment ended w by' (rollback other) (IsStale other) x → (length w.seen ≤ length x.seen → (a b : List Call) → P a → IsBack (rollback token) (IsStale token (state_seen x)) b → R (a ++ b)) → Makes by v x R
  back_behind ended v w x by by' P R rollback IsStale token other made one same rolled join =
      let back = makes_back ended w x by' (rollback other) (IsStale other) rolled in
      let its : Makes by w x (EndsAs ended (rollback token) (IsStale token (state_seen x))) = subst (λ (p : ℕ × Token). Makes p.0 w x (EndsAs ended (rollback p.1) (IsStale p.1 (state_seen x)))) (λ i. (one i, same i)) back in
      makes_then by v w x P (EndsAs ended (rollback token) (IsStale token (state_seen x))) R made its
      (λ a b p e. join (makes_grow by' w x (EndsAs ended (rollback other) (IsStale other (state_seen x))) back) a b p (back_as ended (rollback token) (IsStale token (state_seen x)) b e))

  -- a commit
  pub makes_commit : (spent : Bool) (v w : View) (by : ℕ) (stage : Result Ticket StageCause → Call) (token : Token) (result : Result Ticket (CommitRefused Token)) → Commits stands tells spent v by stage token result w → Makes by v w (CommitsAs spent (length w.seen) stage token result)
  makes_commit true v w by stage token result c = ([], went_made by v w [] c.0.1.made tt, (refl, c.1, c.2))
  makes_commit false v w by stage token result c =
      let m = c.2.made in
      let s = begun v m.0 in
      (own_calls v.numbers s (by_pass by c.0), went_made by v w (by_pass by c.0) m (under_all by c.0), subst (λ (l : List Call). IsCommit stage token l result) (sym (its_calls v.numbers by s c.0 m.5)) c.3)
