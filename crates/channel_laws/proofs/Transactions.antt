-- A batch that was answered Ok, from its begin to what settled it.
use Rattle.std.proofs.Common.{inl, inr, ◌≡◌, ◌++◌, ◌∷◌, [], ℕ, List, Option, Some, None, Result, Ok, Err, Bool, true, false, refl, sym, ◌∙◌, ap, subst, append_assoc}
use Rattle.std.specs.Prelude.{is_ok}
use Rattle.std.proofs.lemmas.List.{append-nil}
use Rattle.event_core.specs.Content.{Content}
use Rattle.event_core.specs.Journal.{IsNotEmpty}
use Rattle.event_core.specs.declared.journal.Entry.{Entry}
use Rattle.event_core.specs.declared.journal.Entry.TheVariants.{Puts, Takes}
use Rattle.channel_face.specs.Token.{Token}
use Rattle.channel_face.specs.Machine.{State, Call, BeginPut, Put, StagePut, StageTake, Flush, Admits, stage_take_refusal, takes_of, after, add_put, entry_of, puts_of, settle, settle_if, settled, with_entry}
use Rattle.channel_face.specs.History.{Step, Opening, opening, IsRun, state_after, journal, commits}
use Rattle.channel_face.specs.Faces.{Own, one, ArePut, EndsAs, EndsBegin, EndsPuts, EndsStage, EndsTakeStage, IsFound, IsTakeCommit, IsMade, IsPutBatch, ArePutUpTo, in_doubt_unless, is_spent_begin, is_spent_flush, is_spent_stage, Ends}
use Rattle.channel_face.specs.declared.replies.Put.{Put as PutDone}
use Rattle.channel_face.specs.declared.replies.Ticket.{Ticket}
use Rattle.channel_face.specs.declared.replies.Settled.{Settled}
use Rattle.channel_face.specs.declared.replies.Settled.TheVariants.{Yes, No, InDoubt}
use Rattle.channel_face.specs.declared.replies.BeginRefused.{BeginRefused}
use Rattle.channel_face.specs.declared.replies.PutRefused.{PutRefused}
use Rattle.channel_face.specs.declared.replies.StageCause.{StageCause}
use Rattle.channel_face.specs.declared.replies.FaceRefused.{FaceRefused}
use Rattle.channel_face.specs.declared.replies.FlushRefused.{FlushRefused}
use Rattle.channel_face.proofs.Adding.{state-append, state-push}
use Rattle.channel_face.specs.Sound.{AreNumbered}
use Rattle.channel_face.proofs.Opened.{entry_of-push, entry_of-with, puts_of-some, puts_of-from}
use Rattle.channel_laws.proofs.Numbering.{earlier_run}
use Rattle.channel_laws.specs.Tickets.{Stages, HasBehind}
use Rattle.channel_laws.specs.Transactions.{AreAmong, looks_at_nothing, BeginsWith, LeftAtEnd, ArePutInJournal, AreTakenInJournal}
use Rattle.channel_laws.proofs.Staging.{admitted, kept_if_settled, settles_in_life, numbers_as, numbers_puts}
use Rattle.channel_laws.proofs.Telling.{no_tells, stays_settled}

-- Parts of a run.

run_front : (tells : Bool) (s : State) (x y : List Step) → IsRun tells s (x ++ y) → IsRun tells s x
run_front tells s [] y run = tt
run_front tells s (step ∷ x) y run = (run.0, run_front tells (after s step.call) x y run.1)

same_own : (a b : Own) (x y : List Own) → a ∷ x ≡ b ∷ y → (a ≡ b) × (x ≡ y)
same_own a b x y is = (cc, cc)

-- From a state on a history is after some front, and these calls are among the rest.
record At {V : Type 0} (look : State → V) (s : State) (h : List Step) (own : List Own) : Type 0 where
  front : List Step
  back : List Step
  whole : h ≡ front ++ back
  among : AreAmong look (state_after s front) back own

-- The next of them, at its place. From the front until there what is looked at stays.
record Next {V : Type 0} (look : State → V) (s : State) (h : List Step) (call : Call) (before : State) (own : List Own) (from : List Step) : Type 0 where
  more : List Step
  step : Step
  rest : List Step
  whole : h ≡ (from ++ more) ++ step ∷ rest
  call_is : step.call ≡ call
  state : state_after s (from ++ more) ≡ before
  same : look (state_after s (from ++ more)) ≡ look (state_after s from)
  among : AreAmong look (after (state_after s (from ++ more)) call) rest own

module _ {V : Type 0} (look : State → V) where
  next_from : (s : State) (h : List Step) (call : Call) (before : State) (moment : ℕ) (own : List Own) → AreAmong look s h (one call before moment ++ own) → Next look s h call before own []
  next_from s [] call before moment own among = absurd (cc)
  next_from s (step ∷ h) call before moment own (inl left) =
      let n = next_from (after s step.call) h call before moment own left.1 in
      record { more = step ∷ n.more; step = n.step; rest = n.rest; whole = ap (λ (l : List Step). step ∷ l) n.whole; call_is = n.call_is; state = n.state; same = n.same ∙ left.0; among = n.among }
  next_from s (step ∷ h) call before moment own (inr here) =
      let same = same_own (record { call = call; before = before; moment = moment }) (record { call = step.call; before = s; moment = step.moment }) own here.0 here.1 in
      let is : call ≡ step.call = ap (λ (o : Own). o.call) same.0 in
      record {
        more = [];
        step = step;
        rest = h;
        whole = refl;
        call_is = sym is;
        state = sym (ap (λ (o : Own). o.before) same.0);
        same = refl;
        among = subst (λ (c : Call). AreAmong look (after s c) h own) (sym is) (subst (λ (l : List Own). AreAmong look (after s step.call) h l) (sym same.1) here.2);
      }

  next_at : (s : State) (h : List Step) (call : Call) (before : State) (moment : ℕ) (own : List Own) (at : At look s h (one call before moment ++ own)) → Next look s h call before own at.front
  next_at s h call before moment own at =
      let n = next_from (state_after s at.front) at.back call before moment own at.among in
      let there : state_after s (at.front ++ n.more) ≡ state_after (state_after s at.front) n.more = state-append s at.front n.more in
      record {
        more = n.more;
        step = n.step;
        rest = n.rest;
        whole = at.whole ∙ (ap (λ (l : List Step). at.front ++ l) n.whole ∙ sym (append_assoc at.front n.more (n.step ∷ n.rest)));
        call_is = n.call_is;
        state = there ∙ n.state;
        same = ap look there ∙ n.same;
        among = subst (λ (v : State). AreAmong look (after v call) n.rest own) (sym there) n.among;
      }

  -- the state after it
  behind : (s : State) (h : List Step) (call : Call) (before : State) (own : List Own) (from : List Step) (n : Next look s h call before own from) → state_after s ((from ++ n.more) ++ n.step ∷ []) ≡ after (state_after s (from ++ n.more)) call
  behind s h call before own from n = state-push s (from ++ n.more) n.step ∙ ap (λ (c : Call). after (state_after s (from ++ n.more)) c) n.call_is

  -- and the calls go on there
  go_on : (s : State) (h : List Step) (call : Call) (before : State) (own : List Own) (from : List Step) → Next look s h call before own from → At look s h own
  go_on s h call before own from n = record {
    front = (from ++ n.more) ++ n.step ∷ [];
    back = n.rest;
    whole = n.whole ∙ sym (append_assoc (from ++ n.more) (n.step ∷ []) n.rest);
    among = subst (λ (v : State). AreAmong look v n.rest own) (sym (behind s h call before own from n)) n.among;
  }

  -- past the earlier ones
  past : (s : State) (h : List Step) (earlier own : List Own) → At look s h (earlier ++ own) → At look s h own
  past s h [] own at = at
  past s h (o ∷ earlier) own at = past s h earlier own (go_on s h o.call o.before (earlier ++ own) at.front (next_at s h o.call o.before o.moment (earlier ++ own) at))

  -- Where these are the face's calls after its stage, and the ticket was found so that they are all, the ticket is settled at the end.
  module _ (saw : List Own → State → Type 0) (seen : ℕ) (tells : Bool) (o : Opening) (h : List Step) (run : IsRun tells (opening o) h) (left : LeftAtEnd saw o h) (call : Call) (staged_in : State) (ending : List Own) (from : List Step) (staging : Next look (opening o) h call staged_in ending from) (t : Ticket) (entry : Entry) (stages : Stages (state_after (opening o) (from ++ staging.more)) staging.step.call t entry) (full : IsNotEmpty entry) where
    abbrev front : List Step
    front = from ++ staging.more

    run_whole : IsRun tells (opening o) (front ++ staging.step ∷ staging.rest)
    run_whole = subst (λ (l : List Step). IsRun tells (opening o) l) staging.whole run

    flushed : (s : State) (done : Unit {0}) (moment : ℕ) → settled s t ≡ No → ending ≡ one (Flush (Ok done)) s moment → settled (state_after (opening o) h) t ≡ Yes
    unfolding go_on
    flushed s done moment not_yet calls =
        let at_end : At look (opening o) h ending = go_on (opening o) h call staged_in ending from staging in
        let here : At look (opening o) h (one (Flush (Ok done)) s moment ++ []) = record { front = at_end.front; back = at_end.back; whole = at_end.whole; among = subst (λ (l : List Own). AreAmong look (state_after (opening o) at_end.front) at_end.back l) calls at_end.among } in
        let f = next_at (opening o) h (Flush (Ok done)) s moment [] here in
        let before : List Step = at_end.front ++ f.more in
        let as_later : before ≡ front ++ staging.step ∷ f.more = append_assoc front (staging.step ∷ []) f.more in
        let runs : IsRun tells (opening o) before = run_front tells (opening o) before (f.step ∷ f.rest) (subst (λ (l : List Step). IsRun tells (opening o) l) f.whole run) in
        let life : (state_after (opening o) before).life ≡ t.life = ap (λ (v : State). v.life) f.state ∙ (no_tells t s not_yet).0 in
        let settles : settled (settle (state_after (opening o) (front ++ staging.step ∷ f.more))) t ≡ Yes =
        settles_in_life tells o front staging.step f.more t entry (subst (λ (l : List Step). IsRun tells (opening o) l) as_later runs) stages full (subst (λ (l : List Step). (state_after (opening o) l).life ≡ t.life) as_later life) in
        let then : settled (state_after (opening o) (before ++ f.step ∷ [])) t ≡ Yes =
        ap (λ (v : State). settled v t) (behind (opening o) h (Flush (Ok done)) s [] at_end.front f ∙ ap (λ (l : List Step). settle (state_after (opening o) l)) as_later) ∙ settles in
        subst (λ (l : List Step). settled (state_after (opening o) l) t ≡ Yes) (append_assoc before (f.step ∷ []) f.rest ∙ sym f.whole) (stays_settled o (before ++ f.step ∷ []) f.rest t then)

    told : (all : List Own) (s : State) → IsFound saw all ending s → EndsAs seen s (settled s t) ending true → settled (state_after (opening o) h) t ≡ Yes
    told all s found ends = by_ticket (settled s t) refl ends
      where
        by_reply : (reply : Result (Unit {0}) FlushRefused) → settled s t ≡ No → IsMade seen (is_spent_flush reply) (Flush reply) s ending → true ≡ is_ok reply → settled (state_after (opening o) h) t ≡ Yes
        by_reply (Ok done) not_yet made sure = flushed s done made.0 not_yet made.1
        by_reply (Err refused) not_yet made sure = absurd (cc)

        by_ticket : (its : Settled) → settled s t ≡ its → EndsAs seen s its ending true → settled (state_after (opening o) h) t ≡ Yes
        by_ticket Yes is ends = ap (λ (v : State). settled v t) (sym (left all s (subst (λ (l : List Own). IsFound saw all l s) ends.0 found))) ∙ is
        by_ticket No is ends = by_reply ends.0 is ends.1 ends.2
        by_ticket InDoubt is ends = absurd (let no = ends.1 in cc)

    -- and its entry is in the journal
    kept : (all : List Own) (s : State) → IsFound saw all ending s → EndsAs seen s (settled s t) ending true → HasBehind (commits (opening o) front) entry (journal (opening o) h)
    kept all s found ends = subst (λ (l : List Step). HasBehind (commits (opening o) front) entry (journal (opening o) l)) (sym staging.whole)
        (kept_if_settled tells o front staging.step staging.rest t entry run_whole stages full (subst (λ (l : List Step). settled (state_after (opening o) l) t ≡ Yes) staging.whole (told all s found ends)))

-- The transaction's puts.

begun_puts : (tells : Bool) (s : State) (token : Token) → AreNumbered s.txn s.opened → Admits tells s (BeginPut (Ok token)) → puts_of (after s (BeginPut (Ok token))) token ≡ Some []
begun_puts tells s token numbered may =
    puts_of-from (after s (BeginPut (Ok token))) token [] (ap (λ (t : Token). t.life) may.1)
    (ap (λ (t : Token). entry_of t.number (s.opened ++ (s.txn, Puts []) ∷ [])) may.1 ∙ entry_of-push s.txn (Puts []) s.opened numbered)

put_puts : (s : State) (token : Token) (event : Content) (done : PutDone) (events : List Content) → puts_of s token ≡ Some events → puts_of (after s (Put token event (Ok done))) token ≡ Some (events ++ event ∷ [])
put_puts s token event done events has = ap (λ (l : Option (List Content)). puts_of (add_put (settle_if done.spilled s) token.number l event) token) has ∙ from done.spilled
  where
    its : (token.life ≡ s.life) × (entry_of token.number s.opened ≡ Some (Puts events))
    its = puts_of-some s token events has

    more : entry_of token.number (with_entry token.number (Puts (events ++ event ∷ [])) s.opened) ≡ Some (Puts (events ++ event ∷ []))
    more = entry_of-with token.number s.opened (Puts events) (Puts (events ++ event ∷ [])) its.1

    from : (spilled : Bool) → puts_of (add_put (settle_if spilled s) token.number (Some events) event) token ≡ Some (events ++ event ∷ [])
    from true = puts_of-from (add_put (settle s) token.number (Some events) event) token (events ++ event ∷ []) its.0 more
    from false = puts_of-from (add_put s token.number (Some events) event) token (events ++ event ∷ []) its.0 more

-- what the transaction has put
abbrev puts_now : Token → State → Option (List Content)
puts_now token s = puts_of s token

-- all of them are put
all_put : (token : Token) (s : State) (h : List Step) (events before : List Content) (puts own : List Own) (at : At (puts_now token) s h (puts ++ own)) → ArePut token events puts → puts_of (state_after s at.front) token ≡ Some before
    → (new : At (puts_now token) s h own) × (puts_of (state_after s new.front) token ≡ Some (before ++ events))
unfolding go_on next_at
all_put token s h [] before puts own at are has = (
  record { front = at.front; back = at.back; whole = at.whole; among = subst (λ (l : List Own). AreAmong (puts_now token) (state_after s at.front) at.back (l ++ own)) are at.among },
  has ∙ ap (λ (l : List Content). Some l) (sym (append-nil before)),
)
all_put token s h (event ∷ events) before puts own at are has =
    let look : State → Option (List Content) = puts_now token in
    let done = are.0 in
    let s1 = are.1 in
    let moment = are.2 in
    let rest = are.3 in
    let call : Call = Put token event (Ok done) in
    let here : At look s h (one call s1 moment ++ (rest ++ own)) = record { front = at.front; back = at.back; whole = at.whole; among = subst (λ (l : List Own). AreAmong look (state_after s at.front) at.back (l ++ own)) are.4 at.among } in
    let n = next_at look s h call s1 moment (rest ++ own) here in
    let more : puts_of (state_after s ((at.front ++ n.more) ++ n.step ∷ [])) token ≡ Some (before ++ event ∷ []) =
    ap look (behind look s h call s1 (rest ++ own) at.front n) ∙ put_puts (state_after s (at.front ++ n.more)) token event done before (n.same ∙ has) in
    let r = all_put token s h events (before ++ event ∷ []) rest own (go_on look s h call s1 (rest ++ own) at.front n) are.5 more in
    (r.0, r.1 ∙ ap (λ (l : List Content). Some l) (append_assoc before (event ∷ []) events))

-- The batch's own calls, where it was answered Ok.
record Answered (saw : List Own → State → Type 0) (seen number : ℕ) (events : List Content) (own : List Own) : Type 0 where
  token : Token
  ticket : Ticket
  begun_in : State
  begun_at : ℕ
  puts : List Own
  staged_in : State
  staged_at : ℕ
  ending : List Own
  calls : own ≡ one (BeginPut (Ok token)) begun_in begun_at ++ (puts ++ (one (StagePut token (Ok ticket)) staged_in staged_at ++ ending))
  are_put : ArePut token events puts
  first : number ≡ ticket.first
  all : List Own
  asked_in : State
  found : IsFound saw all ending asked_in
  ends : EndsAs seen asked_in (settled asked_in ticket) ending true

answered : (saw : List Own → State → Type 0) (seen number : ℕ) (events : List Content) (earlier own : List Own) → IsPutBatch saw seen events (Ok number) earlier own → Answered saw seen number events own
answered saw seen number events earlier own batch = by_begin batch.0 batch.1 batch.2 batch.3 batch.4 batch.5 batch.6
  where
    by_sure : (token : Token) (ticket : Ticket) (begun_in : State) (begun_at : ℕ) (puts : List Own) (staged_in : State) (staged_at : ℕ) (ending : List Own)
        → own ≡ one (BeginPut (Ok token)) begun_in begun_at ++ (puts ++ (one (StagePut token (Ok ticket)) staged_in staged_at ++ ending)) → ArePut token events puts
        → (all : List Own) (sure : Bool) → Ends saw seen ticket all ending sure → Ok number ≡ in_doubt_unless sure ticket.first → Answered saw seen number events own
    by_sure token ticket begun_in begun_at puts staged_in staged_at ending calls are all true ends is = record {
      token = token;
      ticket = ticket;
      begun_in = begun_in;
      begun_at = begun_at;
      puts = puts;
      staged_in = staged_in;
      staged_at = staged_at;
      ending = ending;
      calls = calls;
      are_put = are;
      first = cc;
      all = all;
      asked_in = ends.0;
      found = ends.1;
      ends = ends.2;
    }
    by_sure token ticket begun_in begun_at puts staged_in staged_at ending calls are all false ends is = absurd (cc)

    by_stage : (token : Token) (begun_in : State) (begun_at : ℕ) (puts : List Own) (reply : Result Ticket StageCause) (staged_in : State) (staged ending : List Own)
        → own ≡ one (BeginPut (Ok token)) begun_in begun_at ++ (puts ++ (staged ++ ending)) → ArePut token events puts → IsMade seen (is_spent_stage reply) (StagePut token reply) staged_in staged
        → (all : List Own) → EndsStage saw seen token reply all ending (Ok number) → Answered saw seen number events own
    by_stage token begun_in begun_at puts (Ok ticket) staged_in staged ending calls are made all ends =
        by_sure token ticket begun_in begun_at puts staged_in made.0 ending (calls ∙ ap (λ (l : List Own). one (BeginPut (Ok token)) begun_in begun_at ++ (puts ++ (l ++ ending))) made.1) are all ends.0 ends.1 ends.2
    by_stage token begun_in begun_at puts (Err cause) staged_in staged ending calls are made all ends = absurd (let no = ends.1 in cc)

    by_puts : (token : Token) (begun_in : State) (begun_at : ℕ) (reply : Result (Unit {0}) PutRefused) (puts ending : List Own) → own ≡ one (BeginPut (Ok token)) begun_in begun_at ++ (puts ++ ending)
        → ArePutUpTo seen token events reply puts → (all : List Own) → EndsPuts saw seen token reply all ending (Ok number) → Answered saw seen number events own
    by_puts token begun_in begun_at (Ok done) puts ending calls are all ends =
        by_stage token begun_in begun_at puts ends.0 ends.1 ends.2 ends.3 (calls ∙ ap (λ (l : List Own). one (BeginPut (Ok token)) begun_in begun_at ++ (puts ++ l)) ends.4) are ends.5 (all ++ ends.2) ends.6
    by_puts token begun_in begun_at (Err refused) puts ending calls are all ends = absurd (let no = ends.1 in cc)

    by_begin : (reply : Result Token BeginRefused) (begun_in : State) (begun ending : List Own) → own ≡ begun ++ ending → IsMade seen (is_spent_begin reply) (BeginPut reply) begun_in begun
        → EndsBegin saw seen events reply (earlier ++ begun) ending (Ok number) → Answered saw seen number events own
    by_begin (Ok token) begun_in begun ending calls made ends =
        by_puts token begun_in made.0 ends.0 ends.1 ends.2 (calls ∙ (ap (λ (l : List Own). l ++ ending) made.1 ∙ ap (λ (l : List Own). one (BeginPut (Ok token)) begun_in made.0 ++ l) ends.3)) ends.4 ((earlier ++ begun) ++ ends.1) ends.5
    by_begin (Err refused) begun_in begun ending calls made ends = absurd (let no = ends.1 in cc)

module _ (saw : List Own → State → Type 0) (seen : ℕ) (tells : Bool) (o : Opening) (h : List Step) (number : ℕ) (events : List Content) (earlier own : List Own) (run : IsRun tells (opening o) h) (left : LeftAtEnd saw o h) (batch : IsPutBatch saw seen events (Ok number) earlier own) (alone : (token : Token) → BeginsWith own token → AreAmong (λ s. puts_of s token) (opening o) h (earlier ++ own)) where
  a : Answered saw seen number events own
  a = answered saw seen number events earlier own batch

  abbrev look : State → Option (List Content)
  look = puts_now a.token

  abbrev begin_call : Call
  begin_call = BeginPut (Ok a.token)

  abbrev stage_call : Call
  stage_call = StagePut a.token (Ok a.ticket)

  abbrev from_puts : List Own
  from_puts = a.puts ++ (one stage_call a.staged_in a.staged_at ++ a.ending)

  at_begin : At look (opening o) h (one begin_call a.begun_in a.begun_at ++ from_puts)
  at_begin = past look (opening o) h earlier (one begin_call a.begun_in a.begun_at ++ from_puts) (record {
    front = [];
    back = h;
    whole = refl;
    among = subst (λ (l : List Own). AreAmong look (opening o) h (earlier ++ l)) a.calls (alone a.token (a.begun_in, a.begun_at, from_puts, a.calls));
  })

  begin : Next look (opening o) h begin_call a.begun_in from_puts at_begin.front
  begin = next_at look (opening o) h begin_call a.begun_in a.begun_at from_puts at_begin

  abbrev begun : List Step
  begun = at_begin.front ++ begin.more

  run_begin : IsRun tells (opening o) (begun ++ begin.step ∷ begin.rest)
  run_begin = subst (λ (l : List Step). IsRun tells (opening o) l) begin.whole run

  has_none : puts_of (state_after (opening o) (begun ++ begin.step ∷ [])) a.token ≡ Some []
  has_none =
      let may : Admits tells (state_after (opening o) begun) begin_call = subst (λ (c : Call). Admits tells (state_after (opening o) begun) c) begin.call_is (admitted tells (opening o) begun begin.step begin.rest run_begin) in
      ap look (behind look (opening o) h begin_call a.begun_in from_puts at_begin.front begin) ∙ begun_puts tells (state_after (opening o) begun) a.token (earlier_run (opening o) begun tt) may

  put_all : (new : At look (opening o) h (one stage_call a.staged_in a.staged_at ++ a.ending)) × (puts_of (state_after (opening o) new.front) a.token ≡ Some events)
  unfolding a at_begin begin go_on next_at behind
  put_all = all_put a.token (opening o) h events [] a.puts (one stage_call a.staged_in a.staged_at ++ a.ending) (go_on look (opening o) h begin_call a.begun_in from_puts at_begin.front begin) a.are_put has_none

  staging : Next look (opening o) h stage_call a.staged_in a.ending put_all.0.front
  staging = next_at look (opening o) h stage_call a.staged_in a.staged_at a.ending put_all.0

  abbrev staged : List Step
  staged = put_all.0.front ++ staging.more

  stages : Stages (state_after (opening o) staged) staging.step.call a.ticket (Puts events)
  stages = subst (λ (c : Call). Stages (state_after (opening o) staged) c a.ticket (Puts events)) (sym staging.call_is) (refl, staging.same ∙ put_all.1)

  run_staged : IsRun tells (opening o) (staged ++ staging.step ∷ [])
  run_staged = run_front tells (opening o) (staged ++ staging.step ∷ []) staging.rest (subst (λ (l : List Step). IsRun tells (opening o) l) (staging.whole ∙ sym (append_assoc staged (staging.step ∷ []) staging.rest)) run)

  -- a batch that was answered Ok is in the journal under the number of the answer
  pub answered_is_in_journal : ArePutInJournal o h own events number
  answered_is_in_journal = record {
    token = a.token;
    begun = (a.begun_in, a.begun_at, from_puts, a.calls);
    front = staged;
    stage = staging.step;
    back = staging.rest;
    whole = staging.whole;
    ticket = a.ticket;
    staged = staging.call_is;
    first = sym a.first;
    put = staging.same ∙ put_all.1;
    sure = λ full. told look saw seen tells o h run left stage_call a.staged_in a.ending put_all.0.front staging a.ticket (Puts events) stages full a.all a.asked_in a.found a.ends;
    entry = λ full. kept look saw seen tells o h run left stage_call a.staged_in a.ending put_all.0.front staging a.ticket (Puts events) stages full a.all a.asked_in a.found a.ends;
    numbered = a.first ∙ (numbers_as tells (state_after (opening o) staged) staging.step.call a.ticket events (admitted tells (opening o) staged staging.step [] run_staged) stages).0;
    as_journal = λ none. a.first ∙ (numbers_puts tells o staged staging.step a.ticket events run_staged stages none).0;
  }

-- A commit of takes.

abbrev all_done : Result (Unit {0}) FaceRefused
all_done = Ok tt

some_taken : (s : State) (token : Token) → stage_take_refusal s (takes_of s token) ≡ None → (numbers : List ℕ) × (takes_of s token ≡ Some numbers)
some_taken s token none = from (takes_of s token) refl none
  where
    from : (takes : Option (List ℕ)) → takes_of s token ≡ takes → stage_take_refusal s takes ≡ None → (numbers : List ℕ) × (takes_of s token ≡ Some numbers)
    from None is none = absurd (cc)
    from (Some numbers) is none = (numbers, is)

module _ (saw : List Own → State → Type 0) (seen : ℕ) (tells : Bool) (o : Opening) (h : List Step) (token : Token) (earlier own : List Own) (run : IsRun tells (opening o) h) (left : LeftAtEnd saw o h) (among : AreAmong looks_at_nothing (opening o) h (earlier ++ own)) where
  by_calls : (ticket : Ticket) (s : State) (moment : ℕ) (ending : List Own) → own ≡ one (StageTake token (Ok ticket)) s moment ++ ending → (all : List Own) → Ends saw seen ticket all ending true → AreTakenInJournal o h token
  by_calls ticket s moment ending calls all ends =
      let call : Call = StageTake token (Ok ticket) in
      let at = past looks_at_nothing (opening o) h earlier (one call s moment ++ ending) (record { front = []; back = h; whole = refl; among = subst (λ (l : List Own). AreAmong looks_at_nothing (opening o) h (earlier ++ l)) calls among }) in
      let staging = next_at looks_at_nothing (opening o) h call s moment ending at in
      let front : List Step = at.front ++ staging.more in
      let may : Admits tells (state_after (opening o) front) call = subst (λ (c : Call). Admits tells (state_after (opening o) front) c) staging.call_is (admitted tells (opening o) front staging.step staging.rest (subst (λ (l : List Step). IsRun tells (opening o) l) staging.whole run)) in
      let took = some_taken (state_after (opening o) front) token may.0 in
      let stages : Stages (state_after (opening o) front) staging.step.call ticket (Takes took.0) = subst (λ (c : Call). Stages (state_after (opening o) front) c ticket (Takes took.0)) (sym staging.call_is) (refl, took.1) in
      record {
        front = front;
        stage = staging.step;
        back = staging.rest;
        whole = staging.whole;
        ticket = ticket;
        staged = staging.call_is;
        numbers = took.0;
        taken = took.1;
        sure = λ full. told looks_at_nothing saw seen tells o h run left call s ending at.front staging ticket (Takes took.0) stages full all ends.0 ends.1 ends.2;
        entry = λ full. kept looks_at_nothing saw seen tells o h run left call s ending at.front staging ticket (Takes took.0) stages full all ends.0 ends.1 ends.2;
      }

  by_sure : (ticket : Ticket) (s : State) (moment : ℕ) (ending : List Own) → own ≡ one (StageTake token (Ok ticket)) s moment ++ ending → (all : List Own) (sure : Bool) → Ends saw seen ticket all ending sure → all_done ≡ in_doubt_unless sure tt → AreTakenInJournal o h token
  by_sure ticket s moment ending calls all true ends is = by_calls ticket s moment ending calls all ends
  by_sure ticket s moment ending calls all false ends is = absurd (cc)

  by_reply : (reply : Result Ticket StageCause) (s : State) (staged ending : List Own) → own ≡ staged ++ ending → IsMade seen (is_spent_stage reply) (StageTake token reply) s staged → (all : List Own) → EndsTakeStage saw seen token reply all ending (Ok tt) → AreTakenInJournal o h token
  by_reply (Ok ticket) s staged ending calls made all ends = by_sure ticket s made.0 ending (calls ∙ ap (λ (l : List Own). l ++ ending) made.1) all ends.0 ends.1 ends.2
  by_reply (Err cause) s staged ending calls made all ends = absurd (let no = ends.1 in cc)

  -- what a transaction took that was committed with Ok is in the journal as taken
  pub committed_is_in_journal : IsTakeCommit saw seen token (Ok tt) earlier own → AreTakenInJournal o h token
  committed_is_in_journal commit = by_reply commit.0 commit.1 commit.2 commit.3 commit.4 commit.5 (earlier ++ commit.2) commit.6
