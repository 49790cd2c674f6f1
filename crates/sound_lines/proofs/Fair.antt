-- The own calls of one pass that are fair to others.
use Rattle.std.proofs.Common.{◌⊎◌, inl, inr, ◌≡◌, ◌<◌, ◌++◌, ◌∷◌, [], ℕ, List, Result, Ok, Err, Bool, true, false, refl, sym, ◌∙◌, ap, subst, append_assoc}
use Rattle.std.specs.Prelude.{◌||◌}
use Rattle.std.proofs.lemmas.Bool.{eq-eqb}
use Rattle.std.proofs.lemmas.List.{append-nil}
use Rattle.event_core.specs.Content.{Content}
use Rattle.channel_face.specs.Faces.{Own, one, ArePut, ArePutUpTo, Ends, EndsAs, EndsPuts, EndsStage, IsMade, IsPutBatch, IsPutRolledBack, IsPutStage, is_spent_begin, is_spent_flush, is_spent_put, is_spent_stage}
use Rattle.channel_face.specs.History.{Opening, Step, opening, reopen_reply, state_after}
use Rattle.channel_face.specs.Keeps.{IsCheck, IsMend, IsPrune, is_spent_check, is_spent_open, is_spent_prune}
use Rattle.channel_face.specs.Machine.{State, Call, BeginPut, BeginTake, Put, Take, StagePut, StageTake, Flush, RollbackPut, RollbackTake, Checkpoint, Prune, Reopen, after, settled}
use Rattle.channel_face.specs.Token.{Token}
use Rattle.channel_face.specs.declared.replies.CheckRefused.{CheckRefused}
use Rattle.channel_face.specs.declared.replies.FaceRefused.{FaceRefused}
use Rattle.channel_face.specs.declared.replies.OpenCause.{OpenCause}
use Rattle.channel_face.specs.declared.replies.PruneRefused.{PruneRefused}
use Rattle.channel_face.specs.declared.replies.PutRefused.{PutRefused}
use Rattle.channel_face.specs.declared.replies.Settled.{Settled}
use Rattle.channel_face.specs.declared.replies.Settled.TheVariants.{Yes, No, InDoubt}
use Rattle.channel_face.specs.declared.replies.StageCause.{StageCause}
use Rattle.channel_face.specs.declared.replies.Ticket.{Ticket}
use Rattle.channel_lock.specs.Calls.{Below, has}
use Rattle.channel_lock.proofs.Histories.{has_only}
use Rattle.shared_channel.specs.Ports.{own_calls, own_if}
use Rattle.shared_channel.proofs.Porting.{own-append}
use Rattle.sound_lines.specs.Undisturbed.{AreFair, Began, IsFair}

-- one of these calls began this transaction, to put
abbrev pub BegunIn : Token → List Own → Type 0
BegunIn token [] = ⊥
BegunIn token (o ∷ own) = (o.call ≡ BeginPut (Ok token)) ⊎ BegunIn token own

-- a call that was made in this state after these own calls is fair
abbrev pub IsFairOwn : List Own → State → Call → Type 0
IsFairOwn earlier s (Put token event reply) = BegunIn token earlier
IsFairOwn earlier s (StagePut token reply) = BegunIn token earlier
IsFairOwn earlier s (RollbackPut token ended) = BegunIn token earlier
IsFairOwn earlier s (Reopen reply) = s.broken ≡ true
IsFairOwn earlier s call = Unit {0}

-- so is each of these, one after the other
abbrev pub AreFairOwn : List Own → List Own → Type 0
AreFairOwn earlier [] = Unit {0}
AreFairOwn earlier (o ∷ own) = IsFairOwn earlier o.before o.call × AreFairOwn (earlier ++ o ∷ []) own

begun_right : (token : Token) (a b : List Own) → BegunIn token b → BegunIn token (a ++ b)
begun_right token [] b is = is
begun_right token (o ∷ a) b is = inr (begun_right token a b is)

begun_left : (token : Token) (a b : List Own) → BegunIn token a → BegunIn token (a ++ b)
begun_left token [] b is = absurd is
begun_left token (o ∷ a) b (inl is) = inl is
begun_left token (o ∷ a) b (inr is) = inr (begun_left token a b is)

fair_more : (x e : List Own) (s : State) (call : Call) → IsFairOwn e s call → IsFairOwn (x ++ e) s call
fair_more x e s (Put token event reply) is = begun_right token x e is
fair_more x e s (StagePut token reply) is = begun_right token x e is
fair_more x e s (RollbackPut token ended) is = begun_right token x e is
fair_more x e s (Reopen reply) is = is
fair_more x e s (BeginPut reply) is = tt
fair_more x e s (BeginTake reply) is = tt
fair_more x e s (Take token reply) is = tt
fair_more x e s (StageTake token reply) is = tt
fair_more x e s (Flush reply) is = tt
fair_more x e s (RollbackTake token ended) is = tt
fair_more x e s (Checkpoint reply) is = tt
fair_more x e s (Prune reply) is = tt

-- calls stay fair where more were made before them
pub all_more : (x e own : List Own) → AreFairOwn e own → AreFairOwn (x ++ e) own
all_more x e [] all = tt
all_more x e (o ∷ own) all = (fair_more x e o.before o.call all.0, subst (λ (l : List Own). AreFairOwn l own) (sym (append_assoc x e (o ∷ []))) (all_more x (e ++ o ∷ []) own all.1))

-- fair calls after fair calls are fair
pub fair-append : (e a b : List Own) → AreFairOwn e a → AreFairOwn (e ++ a) b → AreFairOwn e (a ++ b)
fair-append e [] b f g = subst (λ (l : List Own). AreFairOwn l b) (append-nil e) g
fair-append e (o ∷ a) b f g = (f.0, fair-append (e ++ o ∷ []) a b f.1 (subst (λ (l : List Own). AreFairOwn l b) (sym (append_assoc e (o ∷ []) a)) g))

fair_behind : (e a b : List Own) → AreFairOwn e (a ++ b) → AreFairOwn (e ++ a) b
fair_behind e [] b all = subst (λ (l : List Own). AreFairOwn l b) (sym (append-nil e)) all
fair_behind e (o ∷ a) b all = subst (λ (l : List Own). AreFairOwn l b) (append_assoc e (o ∷ []) a) (fair_behind (e ++ o ∷ []) a b all.1)

-- fair calls, and then others that are fair by themselves
pub fair_then : (a b : List Own) → AreFairOwn [] a → AreFairOwn [] b → AreFairOwn [] (a ++ b)
fair_then a b f g = fair-append [] a b f (subst (λ (l : List Own). AreFairOwn l b) (append-nil a) (all_more a [] b g))

-- ---- one call

-- one fair call alone is fair
pub one_fair : (e : List Own) (s : State) (call : Call) (moment : ℕ) (own : List Own) → own ≡ one call s moment → IsFairOwn e s call → AreFairOwn e own
one_fair e s call moment own is fair = subst (AreFairOwn e) (sym is) (fair, tt)

-- no calls are fair
pub none_fair : (e own : List Own) → own ≡ [] → AreFairOwn e own
none_fair e own is = subst (AreFairOwn e) (sym is) tt

-- what came of a fair call is fair: the call, or none where no more are counted
pub made_fair : (seen : ℕ) (b : Bool) (call : Call) (s : State) (e own : List Own) → IsMade seen b call s own → IsFairOwn e s call → AreFairOwn e own
made_fair seen false call s e own made fair = one_fair e s call made.0 own made.1 fair
made_fair seen true call s e own made fair = none_fair e own made.0

-- ---- a batch

puts_fair : (token : Token) (events : List Content) (e own : List Own) → BegunIn token e → ArePut token events own → AreFairOwn e own
puts_fair token [] e own begun is = none_fair e own is
puts_fair token (event ∷ events) e own begun (done, s, moment, rest, is, are) =
    let o : Own = record { call = Put token event (Ok done); before = s; moment = moment } in
    subst (AreFairOwn e) (sym is) (begun, puts_fair token events (e ++ o ∷ []) rest (begun_left token e (o ∷ []) begun) are)

puts_up_fair : (seen : ℕ) (token : Token) (events : List Content) (reply : Result (Unit {0}) PutRefused) (e own : List Own) → BegunIn token e → ArePutUpTo seen token events reply own → AreFairOwn e own
puts_up_fair seen token events (Ok done) e own begun are = puts_fair token events e own begun are
puts_up_fair seen token events (Err cause) e own begun (front, back, event, s, puts, put, split, is, are, made) =
    subst (AreFairOwn e) (sym is) (fair-append e puts put (puts_fair token front e puts begun are)
    (made_fair seen (is_spent_put (Err cause)) (Put token event (Err cause)) s (e ++ puts) put made (begun_left token e puts begun)))

rolled_fair : (saw : List Own → State → Type 0) (token : Token) (earlier e own : List Own) → BegunIn token e → IsPutRolledBack saw token earlier own → AreFairOwn e own
rolled_fair saw token earlier e own begun (inl (s, moment, is)) = one_fair e s (RollbackPut token true) moment own is begun
rolled_fair saw token earlier e own begun (inr (s, found, stale, inl none)) = none_fair e own none
rolled_fair saw token earlier e own begun (inr (s, found, stale, inr (moment, is))) = one_fair e s (RollbackPut token false) moment own is begun

-- how a batch ends, settled or in doubt, is fair
pub ends_fair : (saw : List Own → State → Type 0) (seen : ℕ) (t : Ticket) (earlier e own : List Own) (sure : Bool) → Ends saw seen t earlier own sure → AreFairOwn e own
ends_fair saw seen t earlier e own sure (s, found, ends) = by_ticket (settled s t) ends
  where
    by_ticket : (is : Settled) → EndsAs seen s is own sure → AreFairOwn e own
    by_ticket Yes ends = none_fair e own ends.0
    by_ticket No ends = made_fair seen (is_spent_flush ends.0) (Flush ends.0) s e own ends.1 tt
    by_ticket InDoubt ends = none_fair e own ends.0

staged_fair : (saw : List Own → State → Type 0) (seen : ℕ) (token : Token) (result : Result ℕ FaceRefused) (earlier e own : List Own) → BegunIn token e → IsPutStage saw seen token result earlier own → AreFairOwn e own
staged_fair saw seen token result earlier e own begun (reply, s, staged, ending, is, made, ends) =
    subst (AreFairOwn e) (sym is) (fair-append e staged ending (made_fair seen (is_spent_stage reply) (StagePut token reply) s e staged made begun) (by_reply reply ends))
  where
    by_reply : (reply : Result Ticket StageCause) → EndsStage saw seen token reply (earlier ++ staged) ending result → AreFairOwn (e ++ staged) ending
    by_reply (Ok t) ends = ends_fair saw seen t (earlier ++ staged) (e ++ staged) ending ends.0 ends.1
    by_reply (Err cause) ends = rolled_fair saw token (earlier ++ staged) (e ++ staged) ending (begun_left token e staged begun) ends.0

-- a batch is of a transaction that it begins itself
pub batch_fair : (saw : List Own → State → Type 0) (seen : ℕ) (events : List Content) (result : Result ℕ FaceRefused) (earlier own : List Own) → IsPutBatch saw seen events result earlier own → AreFairOwn [] own
batch_fair saw seen events result earlier own (Err cause, s, begun, ending, is, made, ends) =
    subst (AreFairOwn []) (sym is) (fair-append [] begun ending (made_fair seen (is_spent_begin (Err cause)) (BeginPut (Err cause)) s [] begun made tt) (none_fair begun ending ends.0))
batch_fair saw seen events result earlier own (Ok token, s, begun, ending, is, made, (reply, puts, last, is', are, ends)) =
    let began : BegunIn token begun = subst (BegunIn token) (sym made.1) (inl refl) in
    subst (AreFairOwn []) (sym is) (fair-append [] begun ending (one_fair [] s (BeginPut (Ok token)) made.0 begun made.1 tt)
    (subst (AreFairOwn begun) (sym is') (fair-append begun puts last (puts_up_fair seen token events reply begun puts began are) (by_reply (begun_left token begun puts began) reply ends))))
  where
    by_reply : BegunIn token (begun ++ puts) → (reply : Result (Unit {0}) PutRefused) → EndsPuts saw seen token reply ((earlier ++ begun) ++ puts) last result → AreFairOwn (begun ++ puts) last
    by_reply began (Ok done) ends = staged_fair saw seen token result ((earlier ++ begun) ++ puts) (begun ++ puts) last began ends
    by_reply began (Err cause) ends = rolled_fair saw token ((earlier ++ begun) ++ puts) (begun ++ puts) last began ends.0

-- ---- what those who keep a channel call

-- a mend is fair: it reopens only what is broken
pub mend_fair : (OnDisk : Type 0) (saw : List Own → State → Type 0) (seen : ℕ) (result : Result Bool OpenCause) (earlier e own : List Own) → IsMend OnDisk saw seen result earlier own → AreFairOwn e own
mend_fair OnDisk saw seen (Ok false) earlier e own is = none_fair e own is.0
mend_fair OnDisk saw seen (Ok true) earlier e own (on, (reply, kept, s, found, broken, made, is)) = made_fair seen (is_spent_open reply) (Reopen (reopen_reply reply kept)) s e own made broken
mend_fair OnDisk saw seen (Err cause) earlier e own (on, (reply, kept, s, found, broken, made, is)) = made_fair seen (is_spent_open reply) (Reopen (reopen_reply reply kept)) s e own made broken

-- a checkpoint is fair, whatever it is answered
pub check_fair : (seen : ℕ) (reply : Result (Unit {0}) CheckRefused) (e own : List Own) → IsCheck seen reply own → AreFairOwn e own
check_fair seen reply e own (s, made) = made_fair seen (is_spent_check reply) (Checkpoint reply) s e own made tt

-- a removal of old files is fair, whatever it is answered
pub prune_fair : (seen : ℕ) (reply : Result ℕ PruneRefused) (e own : List Own) → IsPrune seen reply own → AreFairOwn e own
prune_fair seen reply e own (s, made) = made_fair seen (is_spent_prune reply) (Prune reply) s e own made tt

-- ---- the whole history

has_self : (n : ℕ) → has (n ∷ []) n ≡ true
has_self n = ap (λ (b : Bool). b || false) (eq-eqb n n refl)

begun_began : (n : ℕ) (token : Token) (s : State) (h : List Step) → BegunIn token (own_calls (n ∷ []) s h) → Began n token h
begun_began n token s [] is = absurd is
begun_began n token s (step ∷ h) is = by_pass (has (n ∷ []) step.pass) refl is (begun_began n token (after s step.call) h)
  where
    by_pass : (b : Bool) → has (n ∷ []) step.pass ≡ b → BegunIn token (own_if b (record { call = step.call; before = s; moment = step.moment }) (own_calls (n ∷ []) (after s step.call) h))
        → (BegunIn token (own_calls (n ∷ []) (after s step.call) h) → Began n token h) → Began n token (step ∷ h)
    by_pass true mine (inl here) more = inl (has_only n step.pass mine, here)
    by_pass true mine (inr later) more = inr (more later)
    by_pass false other is more = inr (more is)

fair_call : (n : ℕ) (s : State) (front : List Step) (t : State) (call : Call) → IsFairOwn (own_calls (n ∷ []) s front) t call → IsFair t front n call
fair_call n s front t (Put token event reply) is = begun_began n token s front is
fair_call n s front t (StagePut token reply) is = begun_began n token s front is
fair_call n s front t (RollbackPut token ended) is = begun_began n token s front is
fair_call n s front t (Reopen reply) is = is
fair_call n s front t (BeginPut reply) is = tt
fair_call n s front t (BeginTake reply) is = tt
fair_call n s front t (Take token reply) is = tt
fair_call n s front t (StageTake token reply) is = tt
fair_call n s front t (Flush reply) is = tt
fair_call n s front t (RollbackTake token ended) is = tt
fair_call n s front t (Checkpoint reply) is = tt
fair_call n s front t (Prune reply) is = tt

below_at : (bound : ℕ) (front : List Step) (step : Step) (rest : List Step) → Below bound (front ++ step ∷ rest) → step.pass < bound
below_at bound [] step rest below = below.0
below_at bound (x ∷ front) step rest below = below_at bound front step rest below.1

-- Where the calls with each number are fair, the history is.
pub fair_of : (start : Opening) (whole : List Step) (passes : ℕ) → Below passes whole → ((n : ℕ) → n < passes → AreFairOwn [] (own_calls (n ∷ []) (opening start) whole)) → AreFair start whole
fair_of start whole passes below each front step p =
    let n = step.pass in
    let s = opening start in
    let t = state_after s front in
    let is : front ++ step ∷ p.0 ≡ whole = sym (append_assoc front (step ∷ []) p.0) ∙ p.1 in
    let o : Own = record { call = step.call; before = t; moment = step.moment } in
    let mine : own_calls (n ∷ []) t (step ∷ p.0) ≡ o ∷ own_calls (n ∷ []) (after t step.call) p.0 = ap (λ (b : Bool). own_if b o (own_calls (n ∷ []) (after t step.call) p.0)) (has_self n) in
    let all : AreFairOwn [] (own_calls (n ∷ []) s front ++ (o ∷ own_calls (n ∷ []) (after t step.call) p.0)) =
    subst (AreFairOwn []) (ap (own_calls (n ∷ []) s) (sym is) ∙ own-append (n ∷ []) s front (step ∷ p.0) ∙ ap (λ (l : List Own). own_calls (n ∷ []) s front ++ l) mine)
    (each n (below_at passes front step p.0 (subst (Below passes) (sym is) below))) in
    fair_call n s front t step.call (fair_behind [] (own_calls (n ∷ []) s front) (o ∷ own_calls (n ∷ []) (after t step.call) p.0) all).0
