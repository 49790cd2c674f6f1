-- Where something is staged in the end, and by which call.
use Rattle.std.proofs.Common.{◌⊎◌, inl, inr, ◌≡◌, ◌≢◌, ◌<◌, ◌≤◌, ◌++◌, ◌∷◌, [], ℕ, suc, List, length, length-append, Option, Some, None, Result, Ok, Err, Bool, true, false, cond, ◌==◌, ◌||◌, refl, sym, ◌∙◌, ap, append_assoc, nat_lt, subst, arith}
use Rattle.std.proofs.lemmas.Bool.{eq-eqb, false≢true}
use Rattle.std.proofs.lemmas.Bool.Decides.{eqb_tells, leb_tells}
use Rattle.event_core.specs.Content.{Content}
use Rattle.event_core.specs.declared.journal.Entry.{Entry}
use Rattle.event_core.specs.declared.journal.Entry.TheVariants.{Puts, Takes}
use Rattle.channel_face.specs.Faces.{Ends, EndsAs, IsMade, Own, is_spent_flush}
use Rattle.channel_face.specs.History.{IsRun, Opening, Step, opening, state_after}
use Rattle.channel_face.specs.Machine.{State, Call, BeginPut, BeginTake, Put, Take, StagePut, StageTake, Flush, RollbackPut, RollbackTake, Checkpoint, Prune, Reopen, Admits, after, add_put, add_take, as_puts, as_takes, entry_of, frame_for, free, is_none_staged, next_number, puts_of, settle_if, settled, size_of_list, stage, stage_put_refusal, stage_take_refusal, takes_of, ticket}
use Rattle.channel_face.specs.Token.{Token}
use Rattle.channel_face.specs.declared.replies.CheckRefused.TheVariants as CheckNo
use Rattle.channel_face.specs.declared.replies.FlushRefused.{FlushRefused}
use Rattle.channel_face.specs.declared.replies.FlushRefused.TheVariants as FlushNo
use Rattle.channel_face.specs.declared.replies.PutRefused.TheVariants as PutNo
use Rattle.channel_face.specs.declared.replies.Settled.{Settled}
use Rattle.channel_face.specs.declared.replies.Settled.TheVariants.{No}
use Rattle.channel_face.specs.declared.replies.TakeRefused.TheVariants as TakeNo
use Rattle.channel_face.specs.declared.replies.Ticket.{Ticket}
use Rattle.channel_face.proofs.Adding.{state-append}
use Rattle.channel_laws.proofs.Moving.{counted_opening, counted_run}
use Rattle.shared_channel.specs.Ports.{own_calls, own_if}
use Rattle.shared_channel.proofs.Porting.{own-append}
use Rattle.channel_lock.specs.Calls.{Below, has}
use Rattle.run_tracks.specs.Tracks.{Stood, Track}
use Rattle.agent_run.specs.RolledTold.{CountsMore}

-- ---- calls that leave something staged

-- the ticket with which a call staged a transaction
abbrev pub ticket_of : Call → Option Ticket
ticket_of (StagePut token (Ok t)) = Some t
ticket_of (StageTake token (Ok t)) = Some t
ticket_of call = None

-- it is not broken, and something is staged
record Sits (s : State) : Type 0 where
  pub whole : s.broken ≡ false
  pub some : is_none_staged s.staged ≡ false

-- it was so before, in the same life and frame
record Sat (s new : State) : Type 0 where
  pub life : new.life ≡ s.life
  pub frame : new.frame ≡ s.frame
  pub sits : Sits s

-- the call staged something, with a ticket of this life and frame
record StagedBy (call : Call) (new : State) : Type 0 where
  pub ticket : Ticket
  pub is : ticket_of call ≡ Some ticket
  pub life : new.life ≡ ticket.life
  pub frame : new.frame ≡ ticket.frame

abbrev Kind : State → Call → State → Type 0
Kind s call new = Sat s new ⊎ StagedBy call new

kept : (s : State) (call : Call) (new : State) → new.life ≡ s.life → new.frame ≡ s.frame → new.broken ≡ s.broken → new.staged ≡ s.staged → Sits new → Kind s call new
kept s call new life frame broken staged sits =
    inl (record { life = life; frame = frame; sits = record { whole = sym broken ∙ sits.whole; some = sym (ap is_none_staged staged) ∙ sits.some } })

cleared : (new : State) → new.staged ≡ [] → Sits new → ⊥
cleared new none sits = false≢true (sym sits.some ∙ ap is_none_staged none)

broke : (new : State) → new.broken ≡ true → Sits new → ⊥
broke new is sits = false≢true (sym sits.whole ∙ is)

spilled : (b : Bool) (s : State) (call : Call) (new : State) → new.life ≡ (settle_if b s).life → new.frame ≡ (settle_if b s).frame → new.broken ≡ (settle_if b s).broken → new.staged ≡ (settle_if b s).staged
    → Sits new → Kind s call new
spilled true s call new life frame broken staged sits = absurd (cleared new staged sits)
spilled false s call new life frame broken staged sits = kept s call new life frame broken staged sits

put_kind : (b : Bool) (s : State) (call : Call) (number : ℕ) (puts : Option (List Content)) (event : Content) → Sits (add_put (settle_if b s) number puts event) → Kind s call (add_put (settle_if b s) number puts event)
put_kind b s call number None event sits = spilled b s call (settle_if b s) refl refl refl refl sits
put_kind b s call number (Some events) event sits = spilled b s call (add_put (settle_if b s) number (Some events) event) refl refl refl refl sits

take_kind : (b : Bool) (s : State) (call : Call) (number : ℕ) (takes : Option (List ℕ)) (items : List (ℕ × Content)) → Sits (add_take (settle_if b s) number takes items) → Kind s call (add_take (settle_if b s) number takes items)
take_kind b s call number None items sits = spilled b s call (settle_if b s) refl refl refl refl sits
take_kind b s call number (Some numbers) [] sits = spilled b s call (settle_if b s) refl refl refl refl sits
take_kind b s call number (Some numbers) (item ∷ items) sits = spilled b s call (add_take (settle_if b s) number (Some numbers) (item ∷ items)) refl refl refl refl sits

frame_of_some : (s : State) (n : ℕ) → 1 ≤ n → frame_for s n ≡ s.frame
frame_of_some s n some = from (eqb_tells n 0)
  where
    from : ((n == 0) ≡ true) × (n ≡ 0) ⊎ ((n == 0) ≡ false) × (n ≢ 0) → frame_for s n ≡ s.frame
    from (inl none) = absurd (omega (arith, some, none.1))
    from (inr isnt) = ap (λ (none : Bool). cond none 0 s.frame) isnt.0

staged_by : (s : State) (call : Call) (new : State) (given : Ticket) (first size : ℕ) → ticket_of call ≡ Some given → given ≡ ticket s first size → 1 ≤ size → new.life ≡ s.life → new.frame ≡ s.frame → Kind s call new
staged_by s call new given first size is its some life frame =
    inr (record {
      ticket = given;
      is = is;
      life = life ∙ sym (ap (λ (t : Ticket). t.life) its);
      frame = frame ∙ sym (ap (λ (t : Ticket). t.frame) its ∙ frame_of_some s size some);
    })

put_staged : (entry : Option Entry) (same : Bool) (s : State) (token : Token) (given : Ticket) → stage_put_refusal s (cond same (as_puts entry) None) ≡ None
    → given ≡ ticket s (next_number s) (size_of_list (cond same (as_puts entry) None)) → Sits (stage token.number entry s) → Kind s (StagePut token (Ok given)) (stage token.number entry s)
put_staged None same s token given free its sits = kept s _ s refl refl refl refl sits
put_staged (Some (Puts [])) same s token given free its sits = kept s _ (stage token.number (Some (Puts [])) s) refl refl refl refl sits
put_staged (Some (Takes [])) same s token given free its sits = kept s _ (stage token.number (Some (Takes [])) s) refl refl refl refl sits
put_staged (Some (Puts (e ∷ es))) true s token given free its sits =
    staged_by s (StagePut token (Ok given)) (stage token.number (Some (Puts (e ∷ es))) s) given (next_number s) (length (e ∷ es)) refl its (omega arith) refl refl
put_staged (Some (Puts (e ∷ es))) false s token given free its sits = absurd (cc)
put_staged (Some (Takes (n ∷ ns))) true s token given free its sits = absurd (cc)
put_staged (Some (Takes (n ∷ ns))) false s token given free its sits = absurd (cc)

take_staged : (entry : Option Entry) (same : Bool) (s : State) (token : Token) (given : Ticket) → stage_take_refusal s (cond same (as_takes entry) None) ≡ None
    → given ≡ ticket s 0 (size_of_list (cond same (as_takes entry) None)) → Sits (stage token.number entry s) → Kind s (StageTake token (Ok given)) (stage token.number entry s)
take_staged None same s token given free its sits = kept s _ s refl refl refl refl sits
take_staged (Some (Puts [])) same s token given free its sits = kept s _ (stage token.number (Some (Puts [])) s) refl refl refl refl sits
take_staged (Some (Takes [])) same s token given free its sits = kept s _ (stage token.number (Some (Takes [])) s) refl refl refl refl sits
take_staged (Some (Takes (n ∷ ns))) true s token given free its sits =
    staged_by s (StageTake token (Ok given)) (stage token.number (Some (Takes (n ∷ ns))) s) given 0 (length (n ∷ ns)) refl its (omega arith) refl refl
take_staged (Some (Takes (n ∷ ns))) false s token given free its sits = absurd (cc)
take_staged (Some (Puts (e ∷ es))) true s token given free its sits = absurd (cc)
take_staged (Some (Puts (e ∷ es))) false s token given free its sits = absurd (cc)

kinds : (tells : Bool) (s : State) (call : Call) → Admits tells s call → Sits (after s call) → Kind s call (after s call)
kinds tells s (BeginPut (Ok token)) ad sits = kept s (BeginPut (Ok token)) (after s (BeginPut (Ok token))) refl refl refl refl sits
kinds tells s (BeginPut (Err e)) ad sits = kept s _ s refl refl refl refl sits
kinds tells s (BeginTake (Ok token)) ad sits = kept s (BeginTake (Ok token)) (after s (BeginTake (Ok token))) refl refl refl refl sits
kinds tells s (BeginTake (Err e)) ad sits = kept s _ s refl refl refl refl sits
kinds tells s (Put token event (Ok done)) ad sits = put_kind done.spilled s _ token.number (puts_of s token) event sits
kinds tells s (Put token event (Err PutNo.DiskFault)) ad sits = absurd (broke (after s (Put token event (Err PutNo.DiskFault))) refl sits)
kinds tells s (Put token event (Err PutNo.Stale)) ad sits = kept s _ s refl refl refl refl sits
kinds tells s (Put token event (Err PutNo.Broken)) ad sits = kept s _ s refl refl refl refl sits
kinds tells s (Put token event (Err (PutNo.Spent counter))) ad sits = kept s _ s refl refl refl refl sits
kinds tells s (Put token event (Err (PutNo.TxnFull n))) ad sits = kept s _ s refl refl refl refl sits
kinds tells s (Put token event (Err (PutNo.TooLarge n))) ad sits = kept s _ s refl refl refl refl sits
kinds tells s (Put token event (Err (PutNo.Full n))) ad sits = kept s _ s refl refl refl refl sits
kinds tells s (Put token event (Err PutNo.NoMemory)) ad sits = kept s _ s refl refl refl refl sits
kinds tells s (Take token (Ok taken)) ad sits = take_kind taken.spilled s _ token.number (takes_of s token) (free s) sits
kinds tells s (Take token (Err TakeNo.DiskFault)) ad sits = absurd (broke (after s (Take token (Err TakeNo.DiskFault))) refl sits)
kinds tells s (Take token (Err TakeNo.Stale)) ad sits = kept s _ s refl refl refl refl sits
kinds tells s (Take token (Err TakeNo.Broken)) ad sits = kept s _ s refl refl refl refl sits
kinds tells s (Take token (Err (TakeNo.Spent counter))) ad sits = kept s _ s refl refl refl refl sits
kinds tells s (Take token (Err (TakeNo.TxnFull n))) ad sits = kept s _ s refl refl refl refl sits
kinds tells s (Take token (Err TakeNo.ReadFault)) ad sits = kept s _ s refl refl refl refl sits
kinds tells s (Take token (Err (TakeNo.Damaged a b))) ad sits = kept s _ s refl refl refl refl sits
kinds tells s (Take token (Err TakeNo.NoMemory)) ad sits = kept s _ s refl refl refl refl sits
kinds tells s (StagePut token (Ok given)) ad sits = put_staged (entry_of token.number s.opened) (token.life == s.life) s token given ad.0 ad.1 sits
kinds tells s (StagePut token (Err cause)) ad sits = kept s _ s refl refl refl refl sits
kinds tells s (StageTake token (Ok given)) ad sits = take_staged (entry_of token.number s.opened) (token.life == s.life) s token given ad.0 ad.1 sits
kinds tells s (StageTake token (Err cause)) ad sits = kept s _ s refl refl refl refl sits
kinds tells s (Flush (Ok done)) ad sits = absurd (cleared (after s (Flush (Ok done))) refl sits)
kinds tells s (Flush (Err FlushNo.Broken)) ad sits = kept s _ s refl refl refl refl sits
kinds tells s (Flush (Err FlushNo.DiskFault)) ad sits = absurd (broke (after s (Flush (Err FlushNo.DiskFault))) refl sits)
kinds tells s (Flush (Err (FlushNo.Spent counter))) ad sits = kept s _ s refl refl refl refl sits
kinds tells s (RollbackPut token true) ad sits = kept s _ (after s (RollbackPut token true)) refl refl refl refl sits
kinds tells s (RollbackPut token false) ad sits = kept s _ s refl refl refl refl sits
kinds tells s (RollbackTake token true) ad sits = kept s _ (after s (RollbackTake token true)) refl refl refl refl sits
kinds tells s (RollbackTake token false) ad sits = kept s _ s refl refl refl refl sits
kinds tells s (Checkpoint (Ok done)) ad sits = absurd (cleared (after s (Checkpoint (Ok done))) refl sits)
kinds tells s (Checkpoint (Err CheckNo.CheckFault)) ad sits = absurd (cleared (after s (Checkpoint (Err CheckNo.CheckFault))) refl sits)
kinds tells s (Checkpoint (Err CheckNo.DiskFault)) ad sits = absurd (broke (after s (Checkpoint (Err CheckNo.DiskFault))) refl sits)
kinds tells s (Checkpoint (Err CheckNo.Broken)) ad sits = kept s _ s refl refl refl refl sits
kinds tells s (Checkpoint (Err (CheckNo.Spent counter))) ad sits = kept s _ s refl refl refl refl sits
kinds tells s (Prune reply) ad sits = kept s _ s refl refl refl refl sits
kinds tells s (Reopen (Ok r)) ad sits = absurd (cleared (after s (Reopen (Ok r))) refl sits)
kinds tells s (Reopen (Err e)) ad sits = absurd (broke (after s (Reopen (Err e))) refl sits)

-- ---- the last stage

-- something is staged, in this life and frame
record IsIn (l f : ℕ) (s : State) : Type 0 where
  pub life : s.life ≡ l
  pub frame : s.frame ≡ f
  pub sits : Sits s

-- it is so all along
abbrev Stays : ℕ → ℕ → State → List Step → Type 0
Stays life frame s [] = IsIn life frame s
Stays life frame s (x ∷ h) = IsIn life frame s × Stays life frame (after s x.call) h

-- a call staged something with a ticket, in whose life and frame something stays staged
record LastStage (s : State) (h : List Step) : Type 0 where
  pub front : List Step
  pub step : Step
  pub rest : List Step
  pub split : h ≡ front ++ step ∷ rest
  pub ticket : Ticket
  pub is : ticket_of step.call ≡ Some ticket
  pub stays : Stays ticket.life ticket.frame (after (state_after s front) step.call) rest

first_in : (life frame : ℕ) (s : State) (h : List Step) → Stays life frame s h → IsIn life frame s
first_in life frame s [] stays = stays
first_in life frame s (x ∷ h) stays = stays.0

last_by_kind : (s : State) (x : Step) (h : List Step) (new : State) → new ≡ after s x.call → Stays new.life new.frame new h → Kind s x.call new → LastStage s (x ∷ h) ⊎ Stays s.life s.frame s (x ∷ h)
last_by_kind s x h new is all (inl sat) = inr (
  record { life = refl; frame = refl; sits = sat.sits },
  subst (λ (p : ℕ × ℕ × State). Stays p.0 p.1 p.2 h) (λ i. (sat.life i, sat.frame i, is i)) all,
)
last_by_kind s x h new is all (inr staged) = inl (record {
  front = [];
  step = x;
  rest = h;
  split = refl;
  ticket = staged.ticket;
  is = staged.is;
  stays = subst (λ (p : ℕ × ℕ × State). Stays p.0 p.1 p.2 h) (λ i. (staged.life i, staged.frame i, is i)) all;
})

last_by : (tells : Bool) (s : State) (x : Step) (h : List Step) → Admits tells s x.call → LastStage (after s x.call) h ⊎ Stays (after s x.call).life (after s x.call).frame (after s x.call) h
    → LastStage s (x ∷ h) ⊎ Stays s.life s.frame s (x ∷ h)
last_by tells s x h ad (inl l) =
    inl (record { front = x ∷ l.front; step = l.step; rest = l.rest; split = ap (λ (k : List Step). x ∷ k) l.split; ticket = l.ticket; is = l.is; stays = l.stays })
last_by tells s x h ad (inr all) =
    last_by_kind s x h (after s x.call) refl all (kinds tells s x.call ad (first_in (after s x.call).life (after s x.call).frame (after s x.call) h all).sits)

-- Where something is staged in the end, it was all along, or a call staged it.
last_stage : (tells : Bool) (s : State) (h : List Step) → IsRun tells s h → Sits (state_after s h) → LastStage s h ⊎ Stays s.life s.frame s h
last_stage tells s [] run sits = inr (record { life = refl; frame = refl; sits = sits })
last_stage tells s (x ∷ h) run sits = last_by tells s x h run.0 (last_stage tells (after s x.call) h run.1 sits)

stays_at : (life frame : ℕ) (s : State) (g r : List Step) → Stays life frame s (g ++ r) → IsIn life frame (state_after s g)
stays_at life frame s [] r stays = first_in life frame s r stays
stays_at life frame s (x ∷ g) r stays = stays_at life frame (after s x.call) g r stays.1

-- ---- each stage was settled or flushed after it

-- after the stage with this ticket the face found it settled or in doubt, or flushed
abbrev pub EndsWith : (List Own → State → Type 0) → ℕ → Option Ticket → List Own → List Own → Type 0
EndsWith saw seen None earlier own = Unit {0}
EndsWith saw seen (Some t) earlier own = (ending rest : List Own) × (sure : Bool) × (own ≡ ending ++ rest) × Ends saw seen t earlier ending sure

-- it is so of each of these calls that staged something
abbrev pub EachEnds : (List Own → State → Type 0) → ℕ → List Own → List Own → Type 0
EachEnds saw seen earlier [] = Unit {0}
EachEnds saw seen earlier (o ∷ own) = EndsWith saw seen (ticket_of o.call) (earlier ++ o ∷ []) own × EachEnds saw seen (earlier ++ o ∷ []) own

-- a number's track in a history
abbrev pub track_in : Opening → List Step → ℕ → Track
track_in start h n = record { start = start; whole = h; number = n; own = [] }

-- it is so of all calls with a number in a history
abbrev pub EndsOf : Opening → List Step → ℕ → Type 0
EndsOf start h n = EachEnds (Stood (track_in start h n)) (length h) [] (own_calls (n ∷ []) (opening start) h)

each_at : (saw : List Own → State → Type 0) (seen : ℕ) (earlier a : List Own) (o : Own) (b : List Own) → EachEnds saw seen earlier (a ++ o ∷ b) → (e : List Own) × (e ≡ earlier ++ (a ++ o ∷ [])) × EndsWith saw seen (ticket_of o.call) e b
each_at saw seen earlier [] o b each = (earlier ++ o ∷ [], refl, each.0)
each_at saw seen earlier (x ∷ a) o b each =
    let at = each_at saw seen (earlier ++ x ∷ []) a o b each.1 in
    (at.0, at.1 ∙ append_assoc earlier (x ∷ []) (a ++ o ∷ []), at.2)

has_self : (n : ℕ) → has (n ∷ []) n ≡ true
has_self n = ap (λ (b : Bool). b || false) (eq-eqb n n refl)

-- the first of a number's calls after a state
abbrev FirstOf : State → List Step → Own → Type 0
FirstOf s h e = (g : List Step) × (x : Step) × (r : List Step) × (h ≡ g ++ x ∷ r) × (e.call ≡ x.call) × (e.before ≡ state_after s g)

first_by : (b : Bool) (s : State) (x : Step) (h : List Step) (own : List Own) (e : Own) (more : List Own) → (own ≡ e ∷ more → FirstOf (after s x.call) h e)
    → own_if b (record { call = x.call; before = s; moment = x.moment }) own ≡ e ∷ more → FirstOf s (x ∷ h) e
first_by true s x h own e more later is =
    let same : record { call = x.call; before = s; moment = x.moment } ≡ e = cc in ([], x, h, refl, ap (λ (o : Own). o.call) (sym same), ap (λ (o : Own). o.before) (sym same))
first_by false s x h own e more later is = let at = later is in (x ∷ at.0, at.1, at.2, ap (λ (l : List Step). x ∷ l) at.3, at.4, at.5)

first_own : (ns : List ℕ) (s : State) (h : List Step) (e : Own) (more : List Own) → own_calls ns s h ≡ e ∷ more → FirstOf s h e
first_own ns s [] e more is = absurd (cc)
first_own ns s (x ∷ h) e more is = first_by (has ns x.pass) s x h (own_calls ns (after s x.call) h) e more (λ same. first_own ns (after s x.call) h e more same) is

-- a front of a history ends before a call, or goes on after it
front_of : (f rest0 front : List Step) (x : Step) (rest : List Step) → f ++ rest0 ≡ front ++ x ∷ rest
    → ((more : List Step) × (front ≡ f ++ more)) ⊎ ((g : List Step) × (f ≡ front ++ x ∷ g) × (g ++ rest0 ≡ rest))
front_of [] rest0 front x rest is = inl (front, refl)
front_of (y ∷ f) rest0 [] x rest is = let head : y ≡ x = cc in let tail : f ++ rest0 ≡ rest = cc in inr (f, ap (λ (z : Step). z ∷ f) head, tail)
front_of (y ∷ f) rest0 (z ∷ front) x rest is = let head : y ≡ z = cc in let tail : f ++ rest0 ≡ front ++ x ∷ rest = cc in by head (front_of f rest0 front x rest tail)
  where
    by : y ≡ z → ((more : List Step) × (front ≡ f ++ more)) ⊎ ((g : List Step) × (f ≡ front ++ x ∷ g) × (g ++ rest0 ≡ rest))
        → ((more : List Step) × (z ∷ front ≡ (y ∷ f) ++ more)) ⊎ ((g : List Step) × (y ∷ f ≡ (z ∷ front) ++ x ∷ g) × (g ++ rest0 ≡ rest))
    by head (inl (more, is)) = inl (more, λ i. sym head i ∷ is i)
    by head (inr (g, is, tail)) = inr (g, (λ i. head i ∷ is i), tail)

run_behind : (tells : Bool) (s : State) (a b : List Step) → IsRun tells s (a ++ b) → IsRun tells (state_after s a) b
run_behind tells s [] b run = run
run_behind tells s (x ∷ a) b run = run_behind tells (after s x.call) a b run.1

-- a ticket of this life and frame is unsettled
not_settled : (t : Ticket) (s : State) → 1 ≤ t.frame → IsIn t.life t.frame s → settled s t ≡ No
not_settled t s some is = by_frame (eqb_tells t.frame 0)
  where
    by_same : ((t.frame == s.frame) ≡ true) × (t.frame ≡ s.frame) ⊎ ((t.frame == s.frame) ≡ false) × (t.frame ≢ s.frame) → (t.frame == s.frame) ≡ true
    by_same (inl same) = same.0
    by_same (inr other) = absurd (other.1 (sym is.frame))

    by_life : ((t.life == s.life) ≡ true) × (t.life ≡ s.life) ⊎ ((t.life == s.life) ≡ false) × (t.life ≢ s.life) → (t.life == s.life) ≡ true
    by_life (inl same) = same.0
    by_life (inr other) = absurd (other.1 (sym is.life))

    by_less : ((nat_lt t.frame s.frame) ≡ true) × (t.frame < s.frame) ⊎ ((nat_lt t.frame s.frame) ≡ false) × (s.frame < suc t.frame) → nat_lt t.frame s.frame ≡ false
    by_less (inl less) = absurd (let l = less.1 in let f = is.frame in omega (arith, l, f))
    by_less (inr not_less) = not_less.0

    by_frame : ((t.frame == 0) ≡ true) × (t.frame ≡ 0) ⊎ ((t.frame == 0) ≡ false) × (t.frame ≢ 0) → settled s t ≡ No
    by_frame (inl none) = absurd (omega (arith, some, none.1))
    by_frame (inr isnt) = rw (isnt.0, by_life (eqb_tells t.life s.life), by_less (leb_tells (suc t.frame) s.frame), by_same (eqb_tells t.frame s.frame), is.sits.whole) refl

-- a flush in such a state leaves nothing staged, or breaks the channel
no_flush : (tells : Bool) (s : State) (reply : Result (Unit {0}) FlushRefused) → Admits tells s (Flush reply) → Sits s → Sits (after s (Flush reply)) → ⊥
no_flush tells s (Ok done) ad was now = cleared (after s (Flush (Ok done))) refl now
no_flush tells s (Err FlushNo.Broken) ad was now = broke s ad was
no_flush tells s (Err FlushNo.DiskFault) ad was now = broke (after s (Flush (Err FlushNo.DiskFault))) refl now
no_flush tells s (Err (FlushNo.Spent counter)) ad was now = absurd ad

stays_rest : (life frame : ℕ) (s : State) (g r : List Step) → Stays life frame s (g ++ r) → Stays life frame (state_after s g) r
stays_rest life frame s [] r stays = stays
stays_rest life frame s (x ∷ g) r stays = stays_rest life frame (after s x.call) g r stays.1

none_made : (seen : ℕ) (spent : Bool) (call : Call) (s : State) → CountsMore seen → IsMade seen spent call s [] → ⊥
none_made seen false call s counted made = let none = made.1 in cc
none_made seen true call s counted made = omega (arith, counted, made.1)

call_made : (seen : ℕ) (spent : Bool) (call : Call) (s : State) (e : Own) (es : List Own) → IsMade seen spent call s (e ∷ es) → e.call ≡ call
call_made seen false call s e es made = let one = made.1 in let same : e ≡ record { call = call; before = s; moment = made.0 } = cc in ap (λ (o : Own). o.call) same
call_made seen true call s e es made = let none = made.0 in absurd (cc)

module _ (tells : Bool) (start : Opening) (h : List Step) (run : IsRun tells (opening start) h) (counted : CountsMore (length h)) (n : ℕ) (front rest : List Step) (step : Step) (t : Ticket)
    (split : h ≡ front ++ step ∷ rest) (some : 1 ≤ t.frame) (stays : Stays t.life t.frame (after (state_after (opening start) front) step.call) rest) where
  -- the state after the stage, the calls with the number before it, and the stage
  abbrev behind : State
  behind = after (state_after (opening start) front) step.call

  abbrev earlier : List Own
  earlier = own_calls (n ∷ []) (opening start) front

  abbrev staging : Own
  staging = record { call = step.call; before = state_after (opening start) front; moment = step.moment }

  no_end : (s : State) (own : List Own) (sure : Bool) → IsIn t.life t.frame s → EndsAs (length h) s (settled s t) own sure → EndsAs (length h) s No own sure
  no_end s own sure at ends = subst (λ (a : Settled). EndsAs (length h) s a own sure) (not_settled t s some at) ends

  -- the face can't have left the channel there
  not_left : (s : State) (sure : Bool) → Stood (track_in start h n) (earlier ++ staging ∷ []) s → EndsAs (length h) s (settled s t) [] sure → ⊥
  not_left s sure (f, pre, calls, state) ends = by (front_of f pre.0 front step rest (pre.1 ∙ split))
    where
      by : ((more : List Step) × (front ≡ f ++ more)) ⊎ ((g : List Step) × (f ≡ front ++ step ∷ g) × (g ++ pre.0 ≡ rest)) → ⊥
      by (inl (more, is)) =
          let later = own_calls (n ∷ []) (state_after (opening start) f) more in
          let same : earlier ≡ (earlier ++ staging ∷ []) ++ later = ap (own_calls (n ∷ []) (opening start)) is ∙ own-append (n ∷ []) (opening start) f more ∙ ap (λ (l : List Own). l ++ later) calls in
          let longer = ap (λ (l : List Own). length l) same ∙ length-append (earlier ++ staging ∷ []) later in
          let one = length-append earlier (staging ∷ []) in
          omega (arith, longer, one)
      by (inr (g, is, tail)) =
          let at = stays_at t.life t.frame behind g pre.0 (subst (Stays t.life t.frame behind) (sym tail) stays) in
          let same : state_after behind g ≡ s = sym (state-append (opening start) front (step ∷ g)) ∙ ap (state_after (opening start)) (sym is) ∙ state in
          let end = no_end s [] sure (subst (IsIn t.life t.frame) same at) ends in
          none_made (length h) (is_spent_flush end.0) (Flush end.0) s counted end.1

  -- nor can it have flushed
  not_flushed : (s : State) (sure : Bool) (e : Own) (es more : List Own) → own_calls (n ∷ []) behind rest ≡ (e ∷ es) ++ more → e.before ≡ s → EndsAs (length h) s (settled s t) (e ∷ es) sure → ⊥
  not_flushed s sure e es more is found ends =
      let at = first_own (n ∷ []) behind rest e (es ++ more) is in
      let all = stays_rest t.life t.frame behind at.0 (at.1 ∷ at.2) (subst (Stays t.life t.frame behind) at.3 stays) in
      let same : state_after behind at.0 ≡ s = sym at.5 ∙ found in
      let end = no_end s (e ∷ es) sure (subst (IsIn t.life t.frame) same all.0) ends in
      let call : at.1.call ≡ Flush end.0 = sym at.4 ∙ call_made (length h) (is_spent_flush end.0) (Flush end.0) s e es end.1 in
      let ran = run_behind tells behind at.0 (at.1 ∷ at.2) (subst (IsRun tells behind) at.3 (run_behind tells (opening start) front (step ∷ rest) (subst (IsRun tells (opening start)) split run)).1) in
      let now = first_in t.life t.frame (after (state_after behind at.0) at.1.call) at.2 all.1 in
      no_flush tells (state_after behind at.0) end.0 (subst (Admits tells (state_after behind at.0)) call ran.0) all.0.sits
      (subst (λ (c : Call). Sits (after (state_after behind at.0) c)) call now.sits)

  neither : (ending more : List Own) (sure : Bool) → own_calls (n ∷ []) behind rest ≡ ending ++ more → Ends (Stood (track_in start h n)) (length h) t (earlier ++ staging ∷ []) ending sure → ⊥
  neither [] more sure is (s, found, ends) = not_left s sure found ends
  neither (e ∷ es) more sure is (s, found, ends) = not_flushed s sure e es more is found ends

  not_staged : EndsOf start h n → ticket_of step.call ≡ Some t → step.pass ≡ n → ⊥
  not_staged each is mine =
      let later = own_calls (n ∷ []) behind rest in
      let own : own_calls (n ∷ []) (opening start) h ≡ earlier ++ staging ∷ later =
      ap (own_calls (n ∷ []) (opening start)) split ∙ own-append (n ∷ []) (opening start) front (step ∷ rest) ∙ ap (λ (b : Bool). earlier ++ own_if b staging later) (ap (has (n ∷ [])) mine ∙ has_self n) in
      let saw = Stood (track_in start h n) in
      let at = each_at saw (length h) [] earlier staging later (subst (EachEnds saw (length h) []) own each) in
      let ends = subst (λ (p : List Own × Option Ticket). EndsWith saw (length h) p.1 p.0 later) (λ i. (at.1 i, is i)) at.2 in
      neither ends.0 ends.1 ends.2 ends.3 ends.4

-- Nothing is staged in the end of a history each of whose calls is of a number whose stages were all settled or flushed.
pub nothing_staged : (tells : Bool) (start : Opening) (h : List Step) (bound : ℕ) → IsRun tells (opening start) h → (state_after (opening start) h).broken ≡ false → CountsMore (length h)
    → Below bound h → ((n : ℕ) → n < bound → EndsOf start h n) → is_none_staged (state_after (opening start) h).staged ≡ true
nothing_staged tells start h bound run whole counted below each = by (is_none_staged (state_after (opening start) h).staged) refl
  where
    below_at : (front : List Step) (x : Step) (rest k : List Step) → k ≡ front ++ x ∷ rest → Below bound k → x.pass < bound
    below_at [] x rest k is all = (subst (Below bound) is all).0
    below_at (y ∷ front) x rest k is all = below_at front x rest (front ++ x ∷ rest) refl (subst (Below bound) is all).1

    last : LastStage (opening start) h ⊎ Stays 1 1 (opening start) h → ⊥
    last (inr all) = false≢true (sym (first_in 1 1 (opening start) h all).sits.some)
    last (inl l) =
        let frames = counted_run (opening start) (l.front ++ l.step ∷ []) (counted_opening start) in
        let same : state_after (opening start) (l.front ++ l.step ∷ []) ≡ after (state_after (opening start) l.front) l.step.call = state-append (opening start) l.front (l.step ∷ []) in
        let at = first_in l.ticket.life l.ticket.frame (after (state_after (opening start) l.front) l.step.call) l.rest l.stays in
        let some : 1 ≤ l.ticket.frame = let f = frames.frames in let e = ap (λ (s : State). s.frame) same in let g = at.frame in omega (arith, f, e, g) in
        not_staged tells start h run counted l.step.pass l.front l.rest l.step l.ticket l.split some l.stays (each l.step.pass (below_at l.front l.step l.rest h l.split below)) l.is refl

    by : (b : Bool) → is_none_staged (state_after (opening start) h).staged ≡ b → is_none_staged (state_after (opening start) h).staged ≡ true
    by true is = is
    by false is = absurd (last (last_stage tells (opening start) h run (record { whole = whole; some = is })))
