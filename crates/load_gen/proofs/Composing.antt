-- Parts of a run are put together.
use Rattle.std.proofs.Common.{◌≡◌, ◌<◌, ◌+◌, ◌-◌, ◌++◌, ◌∷◌, [], ℕ, suc, List, length, Some, None, Result, Ok, Err, Bool, true, false, refl, sym, ◌∙◌, ap, subst, append_assoc, arith}
use Rattle.std.proofs.lemmas.List.{append-nil}
use Rattle.event_core.specs.Content.{Content}
use Rattle.channel_face.specs.Token.{Token}
use Rattle.channel_face.specs.Faces.{is_spent_begin, is_spent_stage, is_spent_take}
use Rattle.channel_face.specs.Machine.{State, Call, BeginPut, BeginTake, Flush, Put, RollbackPut, RollbackTake, StagePut, StageTake, Take, puts_of, takes_of}
use Rattle.channel_face.specs.declared.replies.BeginRefused.{BeginRefused}
use Rattle.channel_face.specs.declared.replies.FaceRefused.TheVariants as FaceNo
use Rattle.channel_face.specs.declared.replies.FlushRefused.{FlushRefused}
use Rattle.channel_face.specs.declared.replies.StageCause.{StageCause}
use Rattle.channel_face.specs.declared.replies.TakeRefused.{TakeRefused}
use Rattle.channel_face.specs.declared.replies.TakeRefused.TheVariants as TakeNo
use Rattle.channel_face.specs.declared.replies.Taken.{Taken}
use Rattle.channel_face.specs.declared.replies.Ticket.{Ticket}
use Rattle.load_gen.specs.Calls.{Begins, IsBack, IsCalled, IsCutOff}
use Rattle.load_gen.specs.Parts.{Does, HaveGiven, IsBackCall, IsCommit, IsSomeTaken, PutFails}
use Rattle.load_gen.specs.Runs.{ArePut, AreTaken, EndsTakes, IsPut, IsTaken, goes_back}
use Rattle.load_gen.specs.declared.refused.LoadRefused.{LoadRefused}
use Rattle.load_gen.specs.declared.refused.LoadRefused.TheVariants.{Check, Face, NoMemory}
use Rattle.load_gen.specs.declared.refused.LoadRefused.TheVariants as load

-- a front of one part, after what came before it, is a front of the whole
begins_within : (P R : List Call → Type 0) (a front : List Call) (next : Call) → ((b : List Call) → P b → (rest : List Call) × R (a ++ (b ++ rest))) → Begins P (front ++ next ∷ []) → Begins R ((a ++ front) ++ next ∷ [])
begins_within P R a front next more goes =
    let b = (front ++ next ∷ []) ++ goes.0 in
    let m = more b goes.1 in
    let same : a ++ (b ++ m.0) ≡ ((a ++ front) ++ next ∷ []) ++ (goes.0 ++ m.0) =
    ap (λ (l : List Call). a ++ l) (append_assoc (front ++ next ∷ []) goes.0 m.0) ∙ sym (append_assoc a (front ++ next ∷ []) (goes.0 ++ m.0))
    ∙ ap (λ (l : List Call). l ++ (goes.0 ++ m.0)) (sym (append_assoc a front (next ∷ []))) in
    (goes.0 ++ m.0, subst R same m.1)

-- a part that was cut off by a refusal
cut_within : (P R : List Call → Type 0) (seen : ℕ) (s : State) (why : LoadRefused) (a : List Call) → ((b : List Call) → P b → (rest : List Call) × R (a ++ (b ++ rest))) → (b : List Call) → IsCutOff P seen s why b → IsCutOff R seen s why (a ++ b)
cut_within P R seen s why a more b is = record {
  front = a ++ is.front;
  next = is.next;
  refused = is.refused;
  back = is.back;
  goes = begins_within P R a is.front is.next more is.goes;
  refuses = is.refuses;
  rolls = is.rolls;
  whole = ap (λ (l : List Call). a ++ l) is.whole ∙ sym (append_assoc a is.front (is.refused ++ is.back));
}

-- A part that was cut off cuts the whole off: each whole part, after what came before it, can be gone on with to a whole.
pub within : (P R : List Call → Type 0) (seen : ℕ) (s : State) (why : LoadRefused) (a : List Call) → ((b : List Call) → P b → (rest : List Call) × R (a ++ (b ++ rest))) → (b : List Call) → Does P seen s (Err why) b → Does R seen s (Err why) (a ++ b)
within P R seen s (Face cause) a more b is = cut_within P R seen s (Face cause) a more b is
within P R seen s (Check cause) a more b is = cut_within P R seen s (Check cause) a more b is
within P R seen s (load.Prune cause) a more b is = cut_within P R seen s (load.Prune cause) a more b is
within P R seen s NoMemory a more b is = record {
  front = a ++ is.front;
  next = is.next;
  back = is.back;
  goes = begins_within P R a is.front is.next more is.goes;
  rolls = is.rolls;
  whole = ap (λ (l : List Call). a ++ l) is.whole ∙ sym (append_assoc a is.front is.back);
}

-- puts

-- puts after others
pub puts_append : (token : Token) (a b : List Content) (x y : List Call) → ArePut token a x → ArePut token b y → ArePut token (a ++ b) (x ++ y)
puts_append token [] b x y p q = subst (λ (l : List Call). ArePut token b (l ++ y)) (sym p) q
puts_append token (event ∷ a) b x y p q = (p.0, p.1 ++ y, ap (λ (l : List Call). l ++ y) p.2, puts_append token a b p.1 y p.3 q)

some_puts : (token : Token) (events : List Content) → (made : List Call) × ArePut token events made
some_puts token [] = ([], refl)
some_puts token (event ∷ events) = let more = some_puts token events in (Put token event (Ok (record { spilled = false })) ∷ more.0, (record { spilled = false }, more.0, refl, more.1))

-- any token, and any ticket
abbrev no_token : Token
no_token = record { life = 0; number = 0 }

abbrev no_ticket : Ticket
no_ticket = record { life = 0; frame = 0; first = 0; count = 0 }

-- calls that make a front of a transaction a whole one
abbrev ends_put : Token → List Call
ends_put token = StagePut token (Ok no_ticket) ∷ Flush (Ok tt) ∷ []

-- some calls put these events
pub some_put : (events : List Content) → (made : List Call) × IsPut events made
some_put events = let puts = some_puts no_token events in (BeginPut (Ok no_token) ∷ puts.0 ++ ends_put no_token, (no_token, no_ticket, puts.0, puts.1, refl))

-- a batch whose transaction was not begun
pub put_unbegun : (events : List Content) (seen : ℕ) (s : State) (cause : BeginRefused) (made : List Call) → IsCalled seen (is_spent_begin (Err cause)) (BeginPut (Err cause)) made → Does (IsPut events) seen s (Err (Face (FaceNo.Begin cause))) made
put_unbegun events seen s cause made is =
    let puts = some_puts no_token events in
    record {
      front = [];
      next = BeginPut (Ok no_token);
      refused = made;
      back = [];
      goes = (puts.0 ++ ends_put no_token, (no_token, no_ticket, puts.0, puts.1, refl));
      refuses = is;
      rolls = refl;
      whole = sym (append-nil made);
    }

-- one whose transaction was begun, and of which an event was not put
module _ (events front back : List Content) (event : Content) (seen : ℕ) (s : State) (token : Token) (puts : List Call) (is : events ≡ front ++ event ∷ back) (put : ArePut token front puts) where
  -- the put that is next
  abbrev next_put : Call
  next_put = Put token event (Ok (record { spilled = false }))

  goes_on : Begins (IsPut events) ((BeginPut (Ok token) ∷ puts) ++ next_put ∷ [])
  goes_on =
      let rest = some_puts token back in
      let its : ArePut token (event ∷ back) (next_put ∷ rest.0) = (record { spilled = false }, rest.0, refl, rest.1) in
      let all : ArePut token (front ++ event ∷ back) (puts ++ next_put ∷ rest.0) = puts_append token front (event ∷ back) puts (next_put ∷ rest.0) put its in
      let same : (puts ++ next_put ∷ []) ++ (rest.0 ++ ends_put token) ≡ (puts ++ next_put ∷ rest.0) ++ ends_put token = append_assoc puts (next_put ∷ []) (rest.0 ++ ends_put token) ∙ sym (append_assoc puts (next_put ∷ rest.0) (ends_put token)) in
      (rest.0 ++ ends_put token, (token, no_ticket, puts ++ next_put ∷ rest.0, subst (λ (l : List Content). ArePut token l (puts ++ next_put ∷ rest.0)) (sym is) all, ap (λ (l : List Call). BeginPut (Ok token) ∷ l) same))

  -- so it was, with the rollback
  pub put_failed : (why : LoadRefused) (failed made : List Call) → made ≡ puts ++ failed → PutFails seen token event why failed → (rolled : List Call) → IsBack (RollbackPut token true) (puts_of s token ≡ None) rolled
      → Does (IsPut events) seen s (Err why) ((BeginPut (Ok token) ∷ made) ++ rolled)
  put_failed (Face (FaceNo.Begin cause)) failed made split fails rolled back_is = absurd fails
  put_failed (Face (FaceNo.Put cause)) failed made split fails rolled back_is = record {
    front = BeginPut (Ok token) ∷ puts;
    next = next_put;
    refused = failed;
    back = rolled;
    goes = goes_on;
    refuses = fails;
    rolls = back_is;
    whole = ap (λ (l : List Call). (BeginPut (Ok token) ∷ l) ++ rolled) split ∙ append_assoc (BeginPut (Ok token) ∷ puts) failed rolled;
  }
  put_failed (Face (FaceNo.Take cause)) failed made split fails rolled back_is = absurd fails
  put_failed (Face (FaceNo.Stage cause)) failed made split fails rolled back_is = absurd fails
  put_failed (Face FaceNo.InDoubt) failed made split fails rolled back_is = absurd fails
  put_failed (Check cause) failed made split fails rolled back_is = absurd fails
  put_failed (load.Prune cause) failed made split fails rolled back_is = absurd fails
  put_failed NoMemory failed made split fails rolled back_is = record {
    front = BeginPut (Ok token) ∷ puts;
    next = next_put;
    back = rolled;
    goes = goes_on;
    rolls = back_is;
    whole = ap (λ (l : List Call). (BeginPut (Ok token) ∷ l) ++ rolled) (split ∙ ap (λ (l : List Call). puts ++ l) fails ∙ append-nil puts);
  }

-- one that was put, and whose commit was cut off
pub put_uncommitted : (events : List Content) (seen : ℕ) (s : State) (token : Token) (why : LoadRefused) (puts made : List Call) → ArePut token events puts → Does (IsCommit (StagePut token)) seen s (Err why) made
    → Does (IsPut events) seen s (Err why) ((BeginPut (Ok token) ∷ puts) ++ made)
put_uncommitted events seen s token why puts made put is =
    within (IsCommit (StagePut token)) (IsPut events) seen s why (BeginPut (Ok token) ∷ puts)
    (λ b c. ([], (token, c.0, puts, put, ap (λ (l : List Call). (BeginPut (Ok token) ∷ puts) ++ l) (append-nil b ∙ c.1)))) made is

-- one that was put and committed
pub put_committed : (events : List Content) (token : Token) (puts made : List Call) → ArePut token events puts → IsCommit (StagePut token) made → IsPut events ((BeginPut (Ok token) ∷ puts) ++ made)
put_committed events token puts made put is = (token, is.0, puts, put, ap (λ (l : List Call). (BeginPut (Ok token) ∷ puts) ++ l) is.1)

-- commits

-- a stage that was refused, and the rollback
pub unstaged_puts : (seen : ℕ) (s : State) (token : Token) (cause : StageCause) (failed rolled : List Call) → IsCalled seen (is_spent_stage (Err cause)) (StagePut token (Err cause)) failed → IsBack (RollbackPut token true) (puts_of s token ≡ None) rolled
    → Does (IsCommit (StagePut token)) seen s (Err (Face (FaceNo.Stage cause))) (failed ++ rolled)
unstaged_puts seen s token cause failed rolled is back_is = record {
  front = [];
  next = StagePut token (Ok no_ticket);
  refused = failed;
  back = rolled;
  goes = (Flush (Ok tt) ∷ [], (no_ticket, refl));
  refuses = is;
  rolls = back_is;
  whole = refl;
}

-- a stage of takes that was refused, and the rollback
pub unstaged_takes : (seen : ℕ) (s : State) (token : Token) (cause : StageCause) (failed rolled : List Call) → IsCalled seen (is_spent_stage (Err cause)) (StageTake token (Err cause)) failed → IsBack (RollbackTake token true) (takes_of s token ≡ None) rolled
    → Does (IsCommit (StageTake token)) seen s (Err (Face (FaceNo.Stage cause))) (failed ++ rolled)
unstaged_takes seen s token cause failed rolled is back_is = record {
  front = [];
  next = StageTake token (Ok no_ticket);
  refused = failed;
  back = rolled;
  goes = (Flush (Ok tt) ∷ [], (no_ticket, refl));
  refuses = is;
  rolls = back_is;
  whole = refl;
}

-- a flush that was refused
pub in_doubt : (stage : Result Ticket StageCause → Call) (seen : ℕ) (s : State) (ticket : Ticket) (cause : FlushRefused) (made : List Call) → made ≡ stage (Ok ticket) ∷ Flush (Err cause) ∷ [] → Does (IsCommit stage) seen s (Err (Face FaceNo.InDoubt)) made
in_doubt stage seen s ticket cause made is = record {
  front = stage (Ok ticket) ∷ [];
  next = Flush (Ok tt);
  refused = Flush (Err cause) ∷ [];
  back = [];
  goes = ([], (ticket, refl));
  refuses = (cause, refl);
  rolls = refl;
  whole = is;
}

-- takes

-- a rollback that found its token stale
pub not_back : (seen : ℕ) (s : State) (token : Token) (made : List Call) → made ≡ [] → takes_of s token ≡ None → Does (IsBackCall token) seen s (Err (Face (FaceNo.Take TakeNo.Stale))) made
not_back seen s token made none stale = record {
  front = [];
  next = RollbackTake token true;
  refused = [];
  back = [];
  goes = ([], refl);
  refuses = (refl, stale);
  rolls = refl;
  whole = none;
}

-- a take after others
pub given_push : (token : Token) (events : List Content) (takes : List Call) (event : Content) (taken : Taken) → HaveGiven token events takes → taken.event ≡ Some event → HaveGiven token (events ++ event ∷ []) (takes ++ Take token (Ok taken) ∷ [])
given_push token [] takes event taken have is = (taken, is, [], ap (λ (l : List Call). l ++ Take token (Ok taken) ∷ []) have, refl)
given_push token (e ∷ events) takes event taken have is = (have.0, have.1, have.2 ++ Take token (Ok taken) ∷ [], ap (λ (l : List Call). l ++ Take token (Ok taken) ∷ []) have.3, given_push token events have.2 event taken have.4 is)

-- as many as there may be
pub given_all : (token : Token) (events : List Content) (takes : List Call) (most : ℕ) → length events ≡ most → HaveGiven token events takes → AreTaken token most events takes
given_all token [] takes most is have = subst (λ (n : ℕ). AreTaken token n [] takes) is have
given_all token (e ∷ events) takes most is have = subst (λ (n : ℕ). AreTaken token n (e ∷ events) takes) is (have.0, have.1, have.2, have.3, given_all token events have.2 (length events) refl have.4)

-- fewer, after which none was left
pub given_none : (token : Token) (events : List Content) (takes : List Call) (last : Taken) (n most : ℕ) → length events + suc n ≡ most → HaveGiven token events takes → last.event ≡ None → AreTaken token most events (takes ++ Take token (Ok last) ∷ [])
given_none token [] takes last n most is have none =
    let e : suc n ≡ most = omega (arith, is) in
    subst (λ (m : ℕ). AreTaken token m [] (takes ++ Take token (Ok last) ∷ [])) e (last, none, ap (λ (l : List Call). l ++ Take token (Ok last) ∷ []) have)
given_none token (e ∷ events) takes last n most is have none =
    let same : suc (length events + suc n) ≡ most = omega (arith, is) in
    let more : AreTaken token (length events + suc n) events (have.2 ++ Take token (Ok last) ∷ []) = given_none token events have.2 last n (length events + suc n) refl have.4 none in
    let all : AreTaken token (suc (length events + suc n)) (e ∷ events) (takes ++ Take token (Ok last) ∷ []) = (have.0, have.1, have.2 ++ Take token (Ok last) ∷ [], ap (λ (l : List Call). l ++ Take token (Ok last) ∷ []) have.3, more) in
    subst (λ (m : ℕ). AreTaken token m (e ∷ events) (takes ++ Take token (Ok last) ∷ [])) same all

-- a take that gives nothing
abbrev no_take : Token → Call
no_take token = Take token (Ok (record { event = None; spilled = false }))

-- some end of a transaction of takes
some_end : (back : Bool) (token : Token) → (made : List Call) × EndsTakes back token made
some_end true token = (RollbackTake token true ∷ [], refl)
some_end false token = (StageTake token (Ok no_ticket) ∷ Flush (Ok tt) ∷ [], (no_ticket, refl))

-- some calls take nothing after batch k
pub some_taken : (k : ℕ) → (made : List Call) × IsTaken k [] made
some_taken k =
    let end = some_end (goes_back (k + 1)) no_token in
    (BeginTake (Ok no_token) ∷ no_take no_token ∷ end.0, (no_token, no_take no_token ∷ [], end.0, (record { event = None; spilled = false }, refl, refl), end.1, refl))

-- the transaction was not begun
pub take_unbegun : (k seen : ℕ) (s : State) (cause : BeginRefused) (made : List Call) → IsCalled seen (is_spent_begin (Err cause)) (BeginTake (Err cause)) made → Does (IsSomeTaken k) seen s (Err (Face (FaceNo.Begin cause))) made
take_unbegun k seen s cause made is =
    let end = some_end (goes_back (k + 1)) no_token in
    record {
      front = [];
      next = BeginTake (Ok no_token);
      refused = made;
      back = [];
      goes = (no_take no_token ∷ end.0, ([], (no_token, no_take no_token ∷ [], end.0, (record { event = None; spilled = false }, refl, refl), end.1, refl)));
      refuses = is;
      rolls = refl;
      whole = sym (append-nil made);
    }

-- a take was refused
pub take_failed : (k seen : ℕ) (s : State) (token : Token) (cause : TakeRefused) (events : List Content) (takes failed made rolled : List Call) → made ≡ takes ++ failed → length events < 50 → HaveGiven token events takes
    → IsCalled seen (is_spent_take (Err cause)) (Take token (Err cause)) failed → IsBack (RollbackTake token true) (takes_of s token ≡ None) rolled → Does (IsSomeTaken k) seen s (Err (Face (FaceNo.Take cause))) ((BeginTake (Ok token) ∷ made) ++ rolled)
take_failed k seen s token cause events takes failed made rolled split few have is back_is =
    let end = some_end (goes_back (k + 1)) token in
    let n : length events + suc (49 - length events) ≡ 50 = omega (arith, few) in
    let all : AreTaken token 50 events (takes ++ no_take token ∷ []) = given_none token events takes (record { event = None; spilled = false }) (49 - length events) 50 n have refl in
    record {
      front = BeginTake (Ok token) ∷ takes;
      next = no_take token;
      refused = failed;
      back = rolled;
      goes = (end.0, (events, (token, takes ++ no_take token ∷ [], end.0, all, end.1, refl)));
      refuses = is;
      rolls = back_is;
      whole = ap (λ (l : List Call). (BeginTake (Ok token) ∷ l) ++ rolled) split ∙ append_assoc (BeginTake (Ok token) ∷ takes) failed rolled;
    }

-- what ends it was cut off
pub take_unended : (P : List Call → Type 0) (k seen : ℕ) (s : State) (token : Token) (why : LoadRefused) (events : List Content) (takes made : List Call) → AreTaken token 50 events takes → ((b : List Call) → P b → EndsTakes (goes_back (k + 1)) token b)
    → Does P seen s (Err why) made → Does (IsSomeTaken k) seen s (Err why) ((BeginTake (Ok token) ∷ takes) ++ made)
take_unended P k seen s token why events takes made taken ends is =
    within P (IsSomeTaken k) seen s why (BeginTake (Ok token) ∷ takes) (λ b p. ([], (events, (token, takes, b, taken, ends b p, ap (λ (l : List Call). (BeginTake (Ok token) ∷ takes) ++ l) (append-nil b))))) made is
