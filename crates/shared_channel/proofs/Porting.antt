-- Whole transactions through a pass, from the calls that they make.
use Rattle.std.proofs.Common.{◌≡◌, ◌≤◌, ◌-◌, ◌^◌, inl, inr, ℕ, List, [], ◌∷◌, ◌++◌, length, length-append, Option, None, Result, Ok, Err, Bool, true, false, not, refl, sym, ◌∙◌, ap, subst, append_assoc, arith}
use Rattle.std.proofs.lemmas.List.{append-nil}
use Rattle.event_core.specs.Content.{Content}
use Rattle.channel_face.specs.Token.{Token}
use Rattle.channel_face.specs.Machine.{State, Call, BeginPut, BeginTake, Put, Take, StagePut, StageTake, Flush, RollbackPut, RollbackTake, after, puts_of, takes_of, settled}
use Rattle.channel_face.specs.History.{Opening, opening, Step, state_after}
use Rattle.channel_face.specs.declared.replies.Ticket.{Ticket}
use Rattle.channel_face.specs.declared.replies.Settled.{Settled}
use Rattle.channel_face.specs.declared.replies.Settled.TheVariants.{Yes, No, InDoubt}
use Rattle.channel_face.specs.declared.replies.Put.{Put as PutDone}
use Rattle.channel_face.specs.declared.replies.Taken.{Taken}
use Rattle.channel_face.specs.declared.replies.BeginRefused.{BeginRefused}
use Rattle.channel_face.specs.declared.replies.TakeRefused.{TakeRefused}
use Rattle.channel_face.specs.declared.replies.PutRefused.{PutRefused}
use Rattle.channel_face.specs.declared.replies.StageCause.{StageCause}
use Rattle.channel_face.specs.declared.replies.FlushRefused.{FlushRefused}
use Rattle.channel_face.specs.declared.replies.FaceRefused.{FaceRefused}
use Rattle.channel_face.specs.declared.replies.FaceRefused.TheVariants as Face
use Rattle.channel_face.specs.Faces.{Own, one, Gains, Ends, is_spent_begin, is_spent_take, taken_event, begun_as, IsTakeBegun, IsTake, is_spent_put, is_spent_stage, is_spent_flush, in_doubt_unless, IsMade, IsRolledBack, IsFound, EndsAs, ArePut, ArePutUpTo, IsPutStage, IsTakeCommit, IsPutBatch, EndsPuts, EndsBegin}
use Rattle.channel_lock.specs.Calls.{has, keep, calls_by}
use Rattle.channel_lock.specs.Views.{View, saw}
use Rattle.channel_lock.specs.Turns.{Making, MadeInTurn}
use Rattle.channel_lock.proofs.Histories.{calls_by-append, nil_of}
use Rattle.shared_channel.specs.Counting.{StandsCounting}
use Rattle.shared_channel.specs.Passes.{Known, known, view_of}
use Rattle.channel_face.specs.declared.replies.OpenCause.{OpenCause}
use Rattle.channel_face.specs.History.{reopen_reply}
use Rattle.channel_face.specs.Machine.{Reopen}
use Rattle.channel_face.specs.Keeps.{is_spent_open}
use Rattle.shared_channel.specs.Durables.{Mends}
use Rattle.shared_channel.specs.Calls.{step, state_seen, made_if, Bounds, Looks, Called, Answers, RolledBack}
use Rattle.shared_channel.specs.Holding.{Holds, IsReleased}
use Rattle.shared_channel.specs.declared.shared.Holder.{Holder}
use Rattle.atomic_table.specs.Seated.{TableId}
use Rattle.shared_channel.specs.Ports.{SettledBy, MakesSettled, own_if, own_calls, owned, AreOwned, AreUnder, Saw, Went, WentBy, Later, Settles, SawAll, under_then}

own_if-append : (b : Bool) (o : Own) (x y : List Own) → own_if b o (x ++ y) ≡ own_if b o x ++ y
own_if-append true o x y = refl
own_if-append false o x y = refl

-- one's own calls of two lists are those of the first and then those of the second
pub own-append : (ns : List ℕ) (s : State) (a b : List Step) → own_calls ns s (a ++ b) ≡ own_calls ns s a ++ own_calls ns (state_after s a) b
own-append ns s [] b = refl
own-append ns s (x ∷ a) b =
    let o : Own = record { call = x.call; before = s; moment = x.moment } in
    ap (own_if (has ns x.pass) o) (own-append ns (after s x.call) a b) ∙ own_if-append (has ns x.pass) o (own_calls ns (after s x.call) a) (own_calls ns (state_after (after s x.call) a) b)

-- none of these calls is one's own
pub own-none : (ns : List ℕ) (s : State) (h : List Step) → calls_by ns h ≡ [] → own_calls ns s h ≡ []
own-none ns s [] none = refl
own-none ns s (x ∷ h) none = by_own (has ns x.pass) none (own-none ns (after s x.call) h)
  where
    by_own : (b : Bool) → keep b x (calls_by ns h) ≡ [] → (calls_by ns h ≡ [] → own_calls ns (after s x.call) h ≡ []) → own_if b (record { call = x.call; before = s; moment = x.moment }) (own_calls ns (after s x.call) h) ≡ []
    by_own true e more = absurd (cc)
    by_own false e more = more e

-- the state after what was seen, and calls of others
abbrev pub begun : View → List Step → State
begun v between = state_after (opening v.base) (v.seen ++ between)

-- calls of others add none of one's own
others : (v : View) (between : List Step) → calls_by v.numbers between ≡ [] → own_calls v.numbers (opening v.base) (v.seen ++ between) ≡ owned v
others v between none = own-append v.numbers (opening v.base) v.seen between ∙ ap (λ l. owned v ++ l) (own-none v.numbers (state_after (opening v.base) v.seen) between none) ∙ append-nil (owned v)

-- of calls under a number those of some passes are so
under_kept : (number : ℕ) (ns : List ℕ) (h : List Step) → AreUnder number h → AreUnder number (calls_by ns h)
under_kept number ns [] u = tt
under_kept number ns (x ∷ h) u = by_own (has ns x.pass) (under_kept number ns h u.1)
  where
    by_own : (b : Bool) → AreUnder number (calls_by ns h) → AreUnder number (keep b x (calls_by ns h))
    by_own true more = (u.0, more)
    by_own false more = more

-- from a view to one that has seen calls of others, and these
went_from : (by : ℕ) (v w : View) (between calls : List Step) → w ≡ saw v w.seen → w.seen ≡ (v.seen ++ between) ++ calls → calls_by v.numbers between ≡ [] → AreUnder by calls → Went by v w (own_calls v.numbers (begun v between) calls)
went_from by v w between calls is all none under = record {
  base = base;
  passes = ap (λ (x : View). x.passes) is;
  numbers = numbers;
  begins = (between ++ calls, sym (append_assoc v.seen between calls) ∙ sym all);
  under = subst (AreUnder by) (sym (calls_by-append v.numbers between calls ∙ ap (λ (l : List Step). l ++ calls_by v.numbers calls) none)) (under_kept by v.numbers calls under);
  owned = (λ i. own_calls (numbers i) (opening (base i)) (all i)) ∙ own-append v.numbers (opening v.base) (v.seen ++ between) calls ∙ ap (λ l. l ++ own_calls v.numbers (begun v between) calls) (others v between none);
}
  where
    base : w.base ≡ v.base
    base = ap (λ (x : View). x.base) is

    numbers : w.numbers ≡ v.numbers
    numbers = ap (λ (x : View). x.numbers) is

-- between what was seen and one's own calls there is none of one's own
none_between : (ns : List ℕ) (a between es l : List Step) → l ≡ (a ++ between) ++ es → calls_by ns l ≡ calls_by ns a ++ es → calls_by ns es ≡ es → calls_by ns between ≡ []
none_between ns a between es l all told own =
    let sum : calls_by ns l ≡ (calls_by ns a ++ calls_by ns between) ++ calls_by ns es = ap (calls_by ns) all ∙ calls_by-append ns (a ++ between) es ∙ ap (λ (x : List Step). x ++ calls_by ns es) (calls_by-append ns a between) in
    let lengths : length ((calls_by ns a ++ calls_by ns between) ++ calls_by ns es) ≡ length (calls_by ns a ++ es) = ap length (sym sum ∙ told) in
    nil_of (calls_by ns between) (omega (arith, lengths, length-append (calls_by ns a ++ calls_by ns between) (calls_by ns es), length-append (calls_by ns a) (calls_by ns between), length-append (calls_by ns a) es, ap length own))

-- from a view to one that has seen calls of others and then one's own of a turn
pub went_made : (by : ℕ) (v w : View) (es : List Step) → (m : MadeInTurn v es w) → AreUnder by es → Went by v w (own_calls v.numbers (begun v m.0) es)
went_made by v w es m under = went_from by v w m.0 es m.1 m.2 (none_between v.numbers v.seen m.0 es w.seen m.2 m.3 m.5) under

-- the same of one lock, from the state in which it was begun
went_turn : (by : ℕ) (v k w : View) (calls : List Step) → Making v [] k → w ≡ saw v w.seen → w.seen ≡ k.seen ++ calls → AreUnder by calls → Went by v w (own_calls v.numbers (state_seen k) calls)
went_turn by v k w calls m is all under = subst (λ (s : State). Went by v w (own_calls v.numbers s calls)) state (went_from by v w m.0 calls is (all ∙ ap (λ l. l ++ calls) here) (none_between v.numbers v.seen m.0 [] k.seen m.2 m.3 refl) under)
  where
    here : k.seen ≡ v.seen ++ m.0
    here = m.2 ∙ append-nil (v.seen ++ m.0)

    state : begun v m.0 ≡ state_seen k
    state = λ i. state_after (opening (sym (ap (λ (x : View). x.base) m.1) i)) (sym here i)

went_then : (by : ℕ) (v w x : View) (a b : List Own) → Went by v w a → Went by w x b → Went by v x (a ++ b)
went_then by v w x a b f g = record {
  base = g.base ∙ f.base;
  passes = g.passes ∙ f.passes;
  numbers = g.numbers ∙ f.numbers;
  begins = (f.begins.0 ++ g.begins.0, sym (append_assoc v.seen f.begins.0 g.begins.0) ∙ ap (λ l. l ++ g.begins.0) f.begins.1 ∙ g.begins.1);
  under = under_then by v.numbers w.numbers f.begins.0 g.begins.0 f.numbers f.under g.under;
  owned = g.owned ∙ ap (λ l. l ++ b) f.owned ∙ append_assoc (owned v) a b;
}

went_none : (by : ℕ) (v : View) → Went by v v []
went_none by v = record { base = refl; passes = refl; numbers = refl; begins = ([], append-nil v.seen); under = tt; owned = sym (append-nil (owned v)) }

-- a view has seen no less after one's own calls
pub grows : (by : ℕ) (v w : View) (more : List Own) → Went by v w more → length v.seen ≤ length w.seen
grows by v w more f = omega (arith, length-append v.seen f.begins.0, ap length f.begins.1)

-- some calls and then others, of which something is true together
pub goes_then : (by : ℕ) (v w x : View) (P Q R : List Own → List Own → Type 0) → WentBy by v w P → WentBy by w x Q → ((a b : List Own) → P (owned v) a → Q (owned v ++ a) b → R (owned v) (a ++ b)) → WentBy by v x R
goes_then by v w x P Q R f g join = (f.0 ++ g.0, went_then by v w x f.0 g.0 f.1 g.1, join f.0 g.0 f.2 (subst (λ l. Q l g.0) f.1.owned g.2))

-- the same calls, of which something else is true too
pub goes_as : (by : ℕ) (v w : View) (P Q : List Own → List Own → Type 0) → WentBy by v w P → ((a : List Own) → P (owned v) a → Q (owned v) a) → WentBy by v w Q
goes_as by v w P Q f turn = (f.0, f.1, turn f.0 f.2)

-- a view has seen no less after calls of which something is true
pub goes_grows : (by : ℕ) (v w : View) (P : List Own → List Own → Type 0) → WentBy by v w P → length v.seen ≤ length w.seen
goes_grows by v w P f = grows by v w f.0 f.1

-- such calls come after whatever calls were one's own
pub gains : (by : ℕ) (v w : View) (P : List Own → List Own → Type 0) → WentBy by v w P → Gains (AreOwned v) (AreOwned w) P
gains by v w P f start earlier own is = (f.0, (is.0 ∙ sym f.1.base, is.1, ap (λ l. l ++ f.0) is.2 ∙ sym f.1.owned), subst (λ l. P l f.0) (sym is.2) f.2)

-- a pass after such calls
pub went_later : (p q : Known) (more : List Own) → (q.table_id ≡ p.table_id) × (q.number ≡ p.number) → Went p.number p.view q.view more → Later p q
went_later p q more same f = record { table = same.0; number = same.1; base = f.base; passes = f.passes; numbers = f.numbers; begins = f.begins; under = f.under }

-- the same of calls of which P is true
pub later : (p q : Known) (P : List Own → List Own → Type 0) → (q.table_id ≡ p.table_id) × (q.number ≡ p.number) → WentBy p.number p.view q.view P → Later p q
later p q P same f = went_later p q f.0 same f.1

-- what the clauses of a face say of a call that led from one pass to the other
abbrev pub Told : Known → Known → (List Own → List Own → Type 0) → Type 0
Told p q P = (length p.view.seen ≤ length q.view.seen) × Gains (AreOwned p.view) (AreOwned q.view) P × Later p q

-- the clauses of a face say this of such calls, from one pass to the other
pub told : (p q : Known) (P : List Own → List Own → Type 0) → (q.table_id ≡ p.table_id) × (q.number ≡ p.number) → WentBy p.number p.view q.view P → Told p q P
told p q P same f = (goes_grows p.number p.view q.view P f, gains p.number p.view q.view P f, later p q P same f)

-- a call that is one's own carries a number of one's own
pub own_one : (ns : List ℕ) (x : Step) → calls_by ns (x ∷ []) ≡ x ∷ [] → has ns x.pass ≡ true
own_one ns x is = by_own (has ns x.pass) is
  where
    by_own : (b : Bool) → keep b x [] ≡ x ∷ [] → b ≡ true
    by_own true e = refl
    by_own false e = absurd (cc)

puts-push : (token : Token) (events : List Content) (own : List Own) (event : Content) (done : PutDone) (s : State) (moment : ℕ) → ArePut token events own → ArePut token (events ++ event ∷ []) (own ++ one (Put token event (Ok done)) s moment)
puts-push token [] own event done s moment all = (done, s, moment, [], ap (λ (l : List Own). l ++ one (Put token event (Ok done)) s moment) all, refl)
puts-push token (e ∷ events) own event done s moment all = (
  all.0,
  all.1,
  all.2,
  all.3 ++ one (Put token event (Ok done)) s moment,
  ap (λ (l : List Own). l ++ one (Put token event (Ok done)) s moment) all.4 ∙ append_assoc (one (Put token e (Ok all.0)) all.1 all.2) all.3 (one (Put token event (Ok done)) s moment),
  puts-push token events all.3 event done s moment all.5,
)

-- the number seen only grows
made_up : (seen seen' : ℕ) (spent : Bool) (call : Call) (s : State) (own : List Own) → seen ≤ seen' → IsMade seen spent call s own → IsMade seen' spent call s own
made_up seen seen' false call s own le m = m
made_up seen seen' true call s own le m = (m.0, let b = m.1 in omega arith)

-- puts up to a refusal stay so where more is seen
pub puts_up : (seen seen' : ℕ) (token : Token) (events : List Content) (reply : Result (Unit {0}) PutRefused) (own : List Own) → seen ≤ seen' → ArePutUpTo seen token events reply own → ArePutUpTo seen' token events reply own
puts_up seen seen' token events (Ok done) own le all = all
puts_up seen seen' token events (Err refused) own le all = (all.0, all.1, all.2, all.3, all.4, all.5, all.6, all.7, all.8, made_up seen seen' (is_spent_put (Err refused)) (Put token all.2 (Err refused)) all.3 all.5 le all.9)

-- one call that may have been spent
abbrev pub IsOne : ℕ → Bool → Call → List Own → List Own → Type 0
IsOne seen spent call earlier more = (s : State) × IsMade seen spent call s more

module _ {C : Type 0} (stands : C → Opening → List Step → Type 0) (tells : C → Bool) (moment : C → ℕ) where
  -- no call was made, and so the channel was left
  pub none_made : (v w : View) (by : ℕ) → (l : Looks stands tells v w) → Went by v w [] × Saw stands w (owned v) (state_seen w)
  none_made v w by l =
      let went = went_made by v w [] l.1.made tt in
      (went, record { channel = l.0; calls = l.1.seen.calls; own_all = went.owned ∙ append-nil (owned v); state = refl })

  -- one call was made
  pub one_made : (v w : View) (by : ℕ) (call : Call) → (c : Called stands tells moment v by call w) → Went by v w (one call (begun v c.1.made.0) (moment c.0))
  one_made v w by call c =
      let x : Step = step by call (moment c.0) in
      let m = c.1.made in
      subst (Went by v w) (ap (λ b. own_if b (record { call = call; before = begun v m.0; moment = moment c.0 }) []) (own_one v.numbers x m.5)) (went_made by v w (x ∷ []) m (refl, tt))

  -- a call that may have been spent
  pub one_call : (spent : Bool) (v w : View) (by : ℕ) (call : Call) → Answers stands tells moment spent v by call w → WentBy by v w (IsOne (length w.seen) spent call)
  one_call true v w by call a = ([], (none_made v w by a.0).0, (begun v a.0.1.made.0, (refl, let b = a.1 in omega arith)))
  one_call false v w by call a = (_, one_made v w by call a.0, (begun v a.0.1.made.0, (moment a.0.0, refl)))

  -- such a call, and what follows it
  call_then : (spent : Bool) (v w x : View) (by by' : ℕ) (call : Call) (Q R : List Own → List Own → Type 0) → Answers stands tells moment spent v by call w → by' ≡ by → WentBy by' w x Q
      → ((s : State) (a b : List Own) → IsMade (length x.seen) spent call s a → Q (owned v ++ a) b → R (owned v) (a ++ b)) → WentBy by v x R
  call_then spent v w x by by' call Q R a one goes join =
      let next = subst (λ (n : ℕ). WentBy n w x Q) one goes in
      goes_then by v w x (IsOne (length w.seen) spent call) Q R (one_call spent v w by call a) next (λ p q h e. join h.0 p q (made_up (length w.seen) (length x.seen) spent call h.0 p (goes_grows by w x Q next) h.1) e)

  -- what it has seen then, a channel stands for
  pub all_seen : (spent : Bool) (v w : View) (by : ℕ) (call : Call) → Answers stands tells moment spent v by call w → SawAll stands tells w
  all_seen true v w by call a = (a.0.0, a.0.1.seen)
  all_seen false v w by call a = (a.0.0, a.0.1.seen)

  -- what a mend has seen, and how it goes on
  pub mended_seen : (v w : View) (by : ℕ) (result : Result Bool OpenCause) → Mends stands tells moment v by result w → SawAll stands tells w
  mended_seen v w by (Ok false) m = (m.0.0, m.0.1.seen)
  mended_seen v w by (Ok true) m = all_seen (is_spent_open m.0) v w by (Reopen (reopen_reply m.0 m.1.0)) m.1.1
  mended_seen v w by (Err cause) m = all_seen (is_spent_open m.0) v w by (Reopen (reopen_reply m.0 m.1.0)) m.1.1

  -- a mend leads from one view to the other
  pub mended_goes : (v w : View) (by : ℕ) (result : Result Bool OpenCause) → Mends stands tells moment v by result w → WentBy by v w (λ earlier more. Unit {0})
  mended_goes v w by (Ok false) m = ([], (none_made v w by m.0).0, tt)
  mended_goes v w by (Ok true) m = let f = one_call (is_spent_open m.0) v w by (Reopen (reopen_reply m.0 m.1.0)) m.1.1 in (f.0, f.1, tt)
  mended_goes v w by (Err cause) m = let f = one_call (is_spent_open m.0) v w by (Reopen (reopen_reply m.0 m.1.0)) m.1.1 in (f.0, f.1, tt)

  -- all that was seen is stood for after a rollback too
  pub all_seen_back : (ended : Bool) (v w : View) (by : ℕ) (call : Call) (IsStale : State → Type 0) → RolledBack stands tells moment ended v by call IsStale w → SawAll stands tells w
  all_seen_back true v w by call IsStale r = (r.0, r.1.seen)
  all_seen_back false v w by call IsStale r = (r.0.0, r.0.1.seen)

  -- a rollback
  pub rolls : (ended : Bool) (v w : View) (by : ℕ) (rollback : Bool → Call) (IsStale : State → Type 0) → RolledBack stands tells moment ended v by (rollback true) IsStale w → WentBy by v w (IsRolledBack (Saw stands w) rollback IsStale)
  rolls true v w by rollback IsStale r = (_, one_made v w by (rollback true) r, inl (begun v r.1.made.0, moment r.0, refl))
  rolls false v w by rollback IsStale r = let n = none_made v w by r.0 in ([], n.0, inr (state_seen w, n.1, r.1, inl refl))

  -- a stage and what follows

  -- puts that were staged and then settled are staged, in doubt unless that is sure
  pub staged_put : (v w x : View) (by by' : ℕ) (token : Token) (t : Ticket) (sure : Bool) (result : Result ℕ FaceRefused) → Answers stands tells moment false v by (StagePut token (Ok t)) w → by' ≡ by → Settles stands by' w x t sure → result ≡ in_doubt_unless sure t.first → WentBy by v x (IsPutStage (Saw stands x) (length x.seen) token result)
  staged_put v w x by by' token t sure result a one ends is =
      call_then false v w x by by' (StagePut token (Ok t)) (λ earlier more. Ends (Saw stands x) (length x.seen) t earlier more sure) (IsPutStage (Saw stands x) (length x.seen) token result) a one ends (λ s p q m e. (Ok t, s, p, q, refl, m, (sure, e, is)))

  -- takes that were staged and then settled are committed, in doubt unless that is sure
  pub staged_take : (v w x : View) (by by' : ℕ) (token : Token) (t : Ticket) (sure : Bool) (result : Result (Unit {0}) FaceRefused) → Answers stands tells moment false v by (StageTake token (Ok t)) w → by' ≡ by → Settles stands by' w x t sure → result ≡ in_doubt_unless sure tt → WentBy by v x (IsTakeCommit (Saw stands x) (length x.seen) token result)
  staged_take v w x by by' token t sure result a one ends is =
      call_then false v w x by by' (StageTake token (Ok t)) (λ earlier more. Ends (Saw stands x) (length x.seen) t earlier more sure) (IsTakeCommit (Saw stands x) (length x.seen) token result) a one ends (λ s p q m e. (Ok t, s, p, q, refl, m, (sure, e, is)))

  -- one that was refused, and the rollback of the token that came back
  unstaged : (v w x : View) (by by' : ℕ) (token other : Token) (cause : StageCause) (ended : Bool) (stage : Token → Result Ticket StageCause → Call) (rollback : Token → Bool → Call) (IsStale : Token → State → Type 0) (R : List Own → List Own → Type 0)
      → Answers stands tells moment (is_spent_stage (Err cause)) v by (stage token (Err cause)) w → by' ≡ by → other ≡ token → RolledBack stands tells moment ended w by' (rollback other true) (IsStale other) x
      → ((s : State) (a b : List Own) → IsMade (length x.seen) (is_spent_stage (Err cause)) (stage token (Err cause)) s a → IsRolledBack (Saw stands x) (rollback token) (IsStale token) (owned v ++ a) b → R (owned v) (a ++ b)) → WentBy by v x R
  unstaged v w x by by' token other cause ended stage rollback IsStale R a one same rolled join =
      let back = subst (λ (k : Token). WentBy by' w x (IsRolledBack (Saw stands x) (rollback k) (IsStale k))) same (rolls ended w x by' (rollback other) (IsStale other) rolled) in
      call_then (is_spent_stage (Err cause)) v w x by by' (stage token (Err cause)) (IsRolledBack (Saw stands x) (rollback token) (IsStale token)) R a one back join

  -- puts whose stage was refused are rolled back, unless their token is stale
  pub unstaged_put : (v w x : View) (by by' : ℕ) (token other : Token) (cause : StageCause) (ended : Bool) → Answers stands tells moment (is_spent_stage (Err cause)) v by (StagePut token (Err cause)) w → by' ≡ by → other ≡ token → RolledBack stands tells moment ended w by' (RollbackPut other true) (λ s. puts_of s other ≡ None) x
      → WentBy by v x (IsPutStage (Saw stands x) (length x.seen) token (Err (Face.Stage cause)))
  unstaged_put v w x by by' token other cause ended a one same rolled =
      unstaged v w x by by' token other cause ended StagePut RollbackPut (λ k s. puts_of s k ≡ None) (IsPutStage (Saw stands x) (length x.seen) token (Err (Face.Stage cause))) a one same rolled (λ s p q m e. (Err cause, s, p, q, refl, m, (e, refl)))

  -- takes whose stage was refused are rolled back, unless their token is stale
  pub unstaged_take : (v w x : View) (by by' : ℕ) (token other : Token) (cause : StageCause) (ended : Bool) → Answers stands tells moment (is_spent_stage (Err cause)) v by (StageTake token (Err cause)) w → by' ≡ by → other ≡ token → RolledBack stands tells moment ended w by' (RollbackTake other true) (λ s. takes_of s other ≡ None) x
      → WentBy by v x (IsTakeCommit (Saw stands x) (length x.seen) token (Err (Face.Stage cause)))
  unstaged_take v w x by by' token other cause ended a one same rolled =
      unstaged v w x by by' token other cause ended StageTake RollbackTake (λ k s. takes_of s k ≡ None) (IsTakeCommit (Saw stands x) (length x.seen) token (Err (Face.Stage cause))) a one same rolled (λ s p q m e. (Err cause, s, p, q, refl, m, (e, refl)))

  -- puts, one after another

  -- one event more was put
  pub put_one : (v w x : View) (by by' : ℕ) (token other : Token) (events events' : List Content) (event : Content) (done : PutDone) → WentBy by v w (λ earlier. ArePut token events) → Answers stands tells moment false w by' (Put other event (Ok done)) x → by' ≡ by → other ≡ token → events' ≡ events ++ event ∷ [] → WentBy by v x (λ earlier. ArePut token events')
  put_one v w x by by' token other events events' event done goes a one same is =
      goes_then by v w x (λ earlier. ArePut token events) (IsOne (length x.seen) false (Put other event (Ok done))) (λ earlier. ArePut token events') goes
      (subst (λ (n : ℕ). WentBy n w x (IsOne (length x.seen) false (Put other event (Ok done)))) one (one_call false w x by' (Put other event (Ok done)) a))
      (λ p q all h. rw (is, h.1.1, same) (puts-push token events p event done h.0 h.1.0 all))

  -- a put that was refused ends the puts
  pub put_refused : (v w x : View) (by by' : ℕ) (token other : Token) (events all back : List Content) (event : Content) (refused : PutRefused) → WentBy by v w (λ earlier. ArePut token events) → Answers stands tells moment (is_spent_put (Err refused)) w by' (Put other event (Err refused)) x → by' ≡ by → other ≡ token → all ≡ events ++ event ∷ back
      → WentBy by v x (λ earlier. ArePutUpTo (length x.seen) token all (Err refused))
  put_refused v w x by by' token other events all back event refused goes a one same is =
      goes_then by v w x (λ earlier. ArePut token events) (IsOne (length x.seen) (is_spent_put (Err refused)) (Put other event (Err refused))) (λ earlier. ArePutUpTo (length x.seen) token all (Err refused)) goes
      (subst (λ (n : ℕ). WentBy n w x (IsOne (length x.seen) (is_spent_put (Err refused)) (Put other event (Err refused)))) one (one_call (is_spent_put (Err refused)) w x by' (Put other event (Err refused)) a))
      (λ p q done h. (events, back, event, h.0, p, q, is, refl, done, subst (λ (k : Token). IsMade (length x.seen) (is_spent_put (Err refused)) (Put k event (Err refused)) h.0 q) same h.1))

  -- a whole batch

  -- a batch whose begin was refused is answered with that refusal
  pub batch_unbegun : (v w : View) (by : ℕ) (events : List Content) (refused : BeginRefused) → Answers stands tells moment (is_spent_begin (Err refused)) v by (BeginPut (Err refused)) w → WentBy by v w (IsPutBatch (Saw stands w) (length w.seen) events (Err (Face.Begin refused)))
  batch_unbegun v w by events refused a =
      goes_as by v w (IsOne (length w.seen) (is_spent_begin (Err refused)) (BeginPut (Err refused))) (IsPutBatch (Saw stands w) (length w.seen) events (Err (Face.Begin refused))) (one_call (is_spent_begin (Err refused)) v w by (BeginPut (Err refused)) a)
      (λ p h. (Err refused, h.0, p, [], sym (append-nil p), h.1, (refl, refl)))

  -- a batch is a begin, the puts, and what ends them
  pub batch_begun : (v w x y : View) (by by' by'' : ℕ) (events : List Content) (token other : Token) (reply : Result (Unit {0}) PutRefused) (result : Result ℕ FaceRefused) → Answers stands tells moment false v by (BeginPut (Ok token)) w → by' ≡ by → by'' ≡ by → other ≡ token → WentBy by' w x (λ earlier. ArePutUpTo (length x.seen) token events reply)
      → WentBy by'' x y (λ earlier more. EndsPuts (Saw stands y) (length y.seen) other reply earlier more result) → WentBy by v y (IsPutBatch (Saw stands y) (length y.seen) events result)
  batch_begun v w x y by by' by'' events token other reply result a one two same puts ends =
      call_then false v w y by by (BeginPut (Ok token)) (λ earlier more. EndsBegin (Saw stands y) (length y.seen) events (Ok token) earlier more result) (IsPutBatch (Saw stands y) (length y.seen) events result) a refl
      (goes_then by w x y (λ earlier. ArePutUpTo (length x.seen) token events reply) (λ earlier more. EndsPuts (Saw stands y) (length y.seen) other reply earlier more result) (λ earlier more. EndsBegin (Saw stands y) (length y.seen) events (Ok token) earlier more result)
      (subst (λ (n : ℕ). WentBy n w x (λ earlier. ArePutUpTo (length x.seen) token events reply)) one puts)
      (subst (λ (n : ℕ). WentBy n x y (λ earlier more. EndsPuts (Saw stands y) (length y.seen) other reply earlier more result)) two ends)
      (λ p q all e. (reply, p, q, refl, puts_up (length x.seen) (length y.seen) token events reply p (goes_grows by'' x y (λ earlier more. EndsPuts (Saw stands y) (length y.seen) other reply earlier more result) ends) all, subst (λ (k : Token). EndsPuts (Saw stands y) (length y.seen) k reply (owned w ++ p) q result) same e)))
      (λ s p q m e. (Ok token, s, p, q, refl, m, e))

  -- what the clauses of a face of takes say of a begin, and of a take

  -- a begin of takes is told as it was answered
  pub take_begun : (p q : Known) (reply : Result Token BeginRefused) (result : Result Token FaceRefused) → (q.table_id ≡ p.table_id) × (q.number ≡ p.number) → Answers stands tells moment (is_spent_begin reply) p.view p.number (BeginTake reply) q.view → result ≡ begun_as reply
      → Told p q (λ earlier. IsTakeBegun (length q.view.seen) result)
  take_begun p q reply result same a is =
      let made = one_call (is_spent_begin reply) p.view q.view p.number (BeginTake reply) a in
      told p q (λ earlier. IsTakeBegun (length q.view.seen) result) same (made.0, made.1, (reply, made.2.0, made.2.1, is))

  -- a take is told as it was answered
  pub taken : (p q : Known) (token : Token) (reply : Result Taken TakeRefused) (result : Result (Option Content) FaceRefused) → (q.table_id ≡ p.table_id) × (q.number ≡ p.number) → Answers stands tells moment (is_spent_take reply) p.view p.number (Take token reply) q.view → result ≡ taken_event reply
      → Told p q (λ earlier. IsTake (length q.view.seen) token result)
  taken p q token reply result same a is =
      let made = one_call (is_spent_take reply) p.view q.view p.number (Take token reply) a in
      told p q (λ earlier. IsTake (length q.view.seen) token result) same (made.0, made.1, (reply, made.2.0, made.2.1, is))

-- before the first event nothing was put
pub puts_none : (by : ℕ) (v : View) (token : Token) → WentBy by v v (λ earlier. ArePut token [])
puts_none by v token = ([], went_none by v, refl)

-- what calls under one lock settled
settled_in : {C : Type 0} (stands : C → Opening → List Step → Type 0) (v w : View) (by moment : ℕ) (ticket : Ticket) (sure : Bool) (k : View) (c : C) (es : List Step) → StandsCounting stands c k.base k.seen → Making v [] k → has v.numbers by ≡ true
    → SettledBy (settled (state_seen k) ticket) by moment k es sure → w ≡ saw v w.seen → w.seen ≡ k.seen ++ es → Settles stands by v w ticket sure
settled_in stands v w by moment ticket sure k c es stood making own found_by is all =
    let r = by_answer (settled (state_seen k) ticket) found_by in
    (r.0, r.1, (state_seen k, r.2, r.3))
  where
    Goes : (List Own → Type 0) → Type 0
    Goes P = (more : List Own) × Went by v w more × IsFound (Saw stands w) (owned v) more (state_seen k) × P more

    none : (P : List Own → Type 0) → es ≡ [] → P [] → Goes P
    none P made shown =
        let base : w.base ≡ k.base = ap (λ (x : View). x.base) is ∙ sym (ap (λ (x : View). x.base) making.1) in
        let on : w.seen ≡ k.seen ++ [] = all ∙ ap (λ (l : List Step). k.seen ++ l) made in
        let seen : w.seen ≡ k.seen = on ∙ append-nil k.seen in
        let went : Went by v w [] = went_turn by v k w [] making is on tt in
        let calls = subst (λ (x : Opening × List Step). StandsCounting stands c x.0 x.1) (λ i. (sym base i, sym seen i)) stood in
        ([], went, record { channel = c; calls = calls; own_all = went.owned ∙ append-nil (owned v); state = λ i. state_after (opening (base i)) (seen i) }, shown)

    flushed : (spent : Bool) (reply : Result (Unit {0}) FlushRefused) → es ≡ made_if (not spent) (step by (Flush reply) moment) → Bounds spent (2 ^ 64 - 1025) (length k.seen) → Goes (IsMade (length w.seen) spent (Flush reply) (state_seen k))
    flushed true reply made bound = none (IsMade (length w.seen) true (Flush reply) (state_seen k)) made (refl, let l = ap length all in omega (arith, length-append k.seen es))
    flushed false reply made bound =
        let x : Step = step by (Flush reply) moment in
        let went = went_turn by v k w (x ∷ []) making is (all ∙ ap (λ (l : List Step). k.seen ++ l) made) (refl, tt) in
        (one (Flush reply) (state_seen k) moment, subst (Went by v w) (ap (λ b. own_if b (record { call = Flush reply; before = state_seen k; moment = moment }) []) own) went, refl, (moment, refl))

    by_answer : (a : Settled) → SettledBy a by moment k es sure → Goes (λ more. EndsAs (length w.seen) (state_seen k) a more sure)
    by_answer Yes h = none (λ more. EndsAs (length w.seen) (state_seen k) Yes more sure) h.0 (refl, h.1)
    by_answer No h = let f = flushed (is_spent_flush h.0) h.0 h.1 h.2 in (f.0, f.1, f.2, (h.0, f.3, h.3))
    by_answer InDoubt h = none (λ more. EndsAs (length w.seen) (state_seen k) InDoubt more sure) h.0 (refl, h.1)

-- what the one who holds the lock did to settle a ticket
pub settles : {C : Type 0} (stands : C → Opening → List Step → Type 0) (tells : C → Bool) (table held : TableId) (number : ℕ) (before after : List View) (p : Known) → known table number before ≡ p → has (view_of before).numbers number ≡ true → (a b : Holder C) → a.by ≡ number → Making (view_of before) [] a.seat.me.0
    → (count : ℕ) → IsReleased stands tells b after count → Holds stands held a → (moment : C → ℕ) (ticket : Ticket) (sure : Bool) → MakesSettled stands held moment ticket sure a b → Settles stands p.number p.view (view_of after) ticket sure
settles stands tells table held number before after p is own a b mine making count released holds moment ticket sure makes =
    subst (λ (k : Known). Settles stands k.number k.view (view_of after) ticket sure) is (subst (λ (n : ℕ). Settles stands n (view_of before) (view_of after) ticket sure) mine
    (settled_in stands (view_of before) (view_of after) a.by (moment b.home.channel) ticket sure a.seat.me.0 a.home.channel makes.0 holds.1.3.calls making theirs makes.2 (released.saw (view_of before) _ (makes.1.goes_on (view_of before) [] making theirs)) (released.seen ∙ makes.1.seen)))
  where
    theirs : has (view_of before).numbers a.by ≡ true
    theirs = ap (has (view_of before).numbers) mine ∙ own
