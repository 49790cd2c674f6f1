-- What a stage's ticket tells in the state that calls after it lead to.
use Rattle.std.proofs.Common.{◌⊎◌, inl, inr, ◌≡◌, ◌≢◌, ◌<◌, ◌≤◌, ◌+◌, ◌++◌, ◌∷◌, [], ℕ, List, length, length-append, Option, Some, Result, Ok, Err, Bool, true, false, cond, ◌==◌, refl, sym, ◌∙◌, ap, subst, arith}
use Rattle.std.proofs.lemmas.List.{append-nil}
use Rattle.std.proofs.lemmas.Bool.Decides.{eqb_tells}
use Rattle.event_core.specs.Content.{Content}
use Rattle.event_core.specs.Journal.{IsNotEmpty, put_events, next}
use Rattle.event_core.specs.declared.journal.Entry.{Entry}
use Rattle.event_core.specs.declared.journal.Entry.TheVariants.{Puts, Takes}
use Rattle.channel_face.specs.Machine.{State, Call, StagePut, StageTake, Admits, after, puts_of, takes_of, stage, is_none_staged, size_of_list, next_number, frame_for, ticket, settled, settle}
use Rattle.channel_face.specs.History.{Step, Opening, opening, IsRun, state_after, kept_by, journal, commits}
use Rattle.channel_face.specs.Laws.{ReadsNone}
use Rattle.channel_face.specs.declared.replies.Ticket.{Ticket}
use Rattle.channel_face.specs.declared.replies.Settled.TheVariants.{Yes, No}
use Rattle.channel_face.specs.declared.replies.StageCause.{StageCause}
use Rattle.channel_face.proofs.Numbers.{put_events-append}
use Rattle.channel_face.proofs.Opened.{puts_of-some, takes_of-some}
use Rattle.channel_laws.specs.Tickets.{Stages, HasBehind}
use Rattle.channel_face.proofs.Adding.{state-append}
use Rattle.channel_laws.proofs.Moving.{moves, IsCounted, counted_moved, counted_run, counted_opening, journal-append, first_run, frame_grows}
use Rattle.channel_laws.proofs.Telling.{tells_yes}
use Rattle.channel_laws.proofs.Settling.{IsStaged, Stands, behind-front, some_staged, stands_run, staged_not_yes, dropped_not_yes, past_not_no}

-- The stage.

-- A call that stages an entry, and answers with its ticket.
record Enters (s : State) (call : Call) (t : Ticket) (entry : Entry) : Type 0 where
  settles_none : kept_by s call ≡ []
  staged : IsStaged t s.staged entry (after s call)

frame_of_some : (s : State) (n : ℕ) → 1 ≤ n → frame_for s n ≡ s.frame
frame_of_some s n some = from (eqb_tells n 0)
  where
    from : ((n == 0) ≡ true) × (n ≡ 0) ⊎ ((n == 0) ≡ false) × (n ≢ 0) → frame_for s n ≡ s.frame
    from (inl none) = absurd (omega (arith, some, none.1))
    from (inr isnt) = ap (λ (none : Bool). cond none 0 s.frame) isnt.0

staged_as : (t : Ticket) (s : State) (number : ℕ) (entry : Entry) → t.life ≡ s.life → t.frame ≡ s.frame → IsNotEmpty entry → IsStaged t s.staged entry (stage number (Some entry) s)
staged_as t s number (Puts []) life frame some = absurd (omega (arith, some))
staged_as t s number (Takes []) life frame some = absurd (omega (arith, some))
staged_as t s number (Puts (e ∷ es)) life frame some = record { life = sym life; frame = sym frame; more = []; staged = refl }
staged_as t s number (Takes (n ∷ ns)) life frame some = record { life = sym life; frame = sym frame; more = []; staged = refl }

abbrev ok : Ticket → Result Ticket StageCause
ok t = Ok t

same_ticket : (a b : Ticket) → ok a ≡ ok b → a ≡ b
same_ticket a b is = cc

no_ticket : (cause : StageCause) (t : Ticket) → Err cause ≡ ok t → ⊥
no_ticket cause t is = cc

enters_as : (s : State) (call : Call) (t given : Ticket) (first number size : ℕ) (entry : Entry) → kept_by s call ≡ [] → after s call ≡ stage number (Some entry) s → given ≡ t → given ≡ ticket s first size → 1 ≤ size → IsNotEmpty entry → Enters s call t entry
enters_as s call t given first number size entry none new same is some full =
    let its : t ≡ ticket s first size = sym same ∙ is in
    let frame : t.frame ≡ s.frame = ap (λ (u : Ticket). u.frame) its ∙ frame_of_some s size some in
    record {
      settles_none = none;
      staged = subst (λ (v : State). IsStaged t s.staged entry v) (sym new) (staged_as t s number entry (ap (λ (u : Ticket). u.life) its) frame full);
    }

enters : (tells : Bool) (s : State) (call : Call) (t : Ticket) (entry : Entry) → Admits tells s call → Stages s call t entry → IsNotEmpty entry → Enters s call t entry
enters tells s (StagePut token (Ok given)) t (Puts events) may is full =
    let size : size_of_list (puts_of s token) ≡ length events = ap size_of_list is.1 in
    let new : after s (StagePut token (Ok given)) ≡ stage token.number (Some (Puts events)) s = ap (λ (e : Option Entry). stage token.number e s) (puts_of-some s token events is.1).1 in
    enters_as s (StagePut token (Ok given)) t given (next_number s) token.number (size_of_list (puts_of s token)) (Puts events) refl new (same_ticket given t is.0) may.1 (omega (arith, size, full)) full
enters tells s (StageTake token (Ok given)) t (Takes numbers) may is full =
    let size : size_of_list (takes_of s token) ≡ length numbers = ap size_of_list is.1 in
    let new : after s (StageTake token (Ok given)) ≡ stage token.number (Some (Takes numbers)) s = ap (λ (e : Option Entry). stage token.number e s) (takes_of-some s token numbers is.1).1 in
    enters_as s (StageTake token (Ok given)) t given 0 token.number (size_of_list (takes_of s token)) (Takes numbers) refl new (same_ticket given t is.0) may.1 (omega (arith, size, full)) full
enters tells s (StagePut token (Err cause)) t (Puts events) may is full = absurd (no_ticket cause t is.0)
enters tells s (StageTake token (Err cause)) t (Takes numbers) may is full = absurd (no_ticket cause t is.0)
enters tells s call t entry may is full = absurd is

-- a ticket of puts
pub numbers_as : (tells : Bool) (s : State) (call : Call) (t : Ticket) (events : List Content) → Admits tells s call → Stages s call t (Puts events) → (t.first ≡ next_number s) × (t.count ≡ length events)
numbers_as tells s (StagePut token (Ok given)) t events may is =
    let its : t ≡ ticket s (next_number s) (size_of_list (puts_of s token)) = sym (same_ticket given t is.0) ∙ may.1 in
    (ap (λ (u : Ticket). u.first) its, ap (λ (u : Ticket). u.count) its ∙ ap size_of_list is.1)
numbers_as tells s (StagePut token (Err cause)) t events may is = absurd (no_ticket cause t is.0)
numbers_as tells s call t events may is = absurd is

-- The calls around it.

-- a run admits each of its calls in the state before it
pub admitted : (tells : Bool) (s : State) (x : List Step) (step : Step) (y : List Step) → IsRun tells s (x ++ step ∷ y) → Admits tells (state_after s x) step.call
admitted tells s [] step y run = run.0
admitted tells s (first ∷ x) step y run = admitted tells (after s first.call) x step y run.1

module _ (tells : Bool) (o : Opening) (h : List Step) (stage : Step) (later : List Step) (t : Ticket) (entry : Entry) (run : IsRun tells (opening o) (h ++ stage ∷ later)) (stages : Stages (state_after (opening o) h) stage.call t entry) (full : IsNotEmpty entry) where
  abbrev s : State
  s = state_after (opening o) h

  abbrev end : State
  end = state_after (opening o) (h ++ stage ∷ later)

  entered : Enters s stage.call t entry
  entered = enters tells s stage.call t entry (admitted tells (opening o) h stage later run) stages full

  counted : IsCounted s
  counted = counted_run (opening o) h (counted_opening o)

  counted_then : IsCounted (after s stage.call)
  counted_then = counted_moved s stage.call (after s stage.call) (kept_by s stage.call) counted (moves s stage.call)

  has_life : 1 ≤ t.life
  has_life = omega (arith, counted_then.lives, entered.staged.life)

  has_frame : 1 ≤ t.frame
  has_frame = omega (arith, counted_then.frames, entered.staged.frame)

  abbrev kept_later : List Entry
  kept_later = journal (after s stage.call) later

  stands : Stands t s.staged entry end kept_later
  stands = subst (λ (v : State). Stands t s.staged entry v kept_later) (sym (state-append (opening o) h (stage ∷ later))) (stands_run t s.staged entry (after s stage.call) later has_life counted_then entered.staged)

  whole : journal (opening o) (h ++ stage ∷ later) ≡ journal (opening o) h ++ kept_later
  whole = journal-append (opening o) h (stage ∷ later) ∙ ap (λ (l : List Entry). journal (opening o) h ++ (l ++ kept_later)) entered.settles_none

  -- what a ticket tells is settled is in the journal, after the commits before its stage
  pub kept_if_settled : settled end t ≡ Yes → HasBehind (commits (opening o) h) entry (journal (opening o) (h ++ stage ∷ later))
  kept_if_settled told = from stands
    where
      from : Stands t s.staged entry end kept_later → HasBehind (commits (opening o) h) entry (journal (opening o) (h ++ stage ∷ later))
      from (inl staged) = absurd (staged_not_yes t s.staged entry end has_frame staged.0 told)
      from (inr (inl past)) = rw whole (behind-front (journal (opening o) h) s.staged entry kept_later past.1)
      from (inr (inr dropped)) = absurd (dropped_not_yes t end has_frame dropped told)

  -- what a ticket tells is not settled is still staged, and the journal is as it was
  pub staged_if_not : settled end t ≡ No → (journal (opening o) (h ++ stage ∷ later) ≡ journal (opening o) h) × HasBehind s.staged entry end.staged
  staged_if_not told = from stands
    where
      from : Stands t s.staged entry end kept_later → (journal (opening o) (h ++ stage ∷ later) ≡ journal (opening o) h) × HasBehind s.staged entry end.staged
      from (inl staged) = (whole ∙ (ap (λ (l : List Entry). journal (opening o) h ++ l) staged.1 ∙ append-nil (journal (opening o) h)), (staged.0.more, staged.0.staged))
      from (inr (inl past)) = absurd (past_not_no t end past.0 told)
      from (inr (inr dropped)) = absurd (past_not_no t end (inr dropped.later) told)

  -- in this life what settles what is staged settles it
  pub settles_in_life : end.life ≡ t.life → settled (settle end) t ≡ Yes
  settles_in_life same = tells_yes t (settle end) (inr (inl (same, from stands)))
    where
      from : Stands t s.staged entry end kept_later → t.frame < (settle end).frame
      from (inl is) =
          let some : is_none_staged end.staged ≡ false = ap is_none_staged is.0.staged ∙ some_staged s.staged entry is.0.more in
          let frame : (settle end).frame ≡ end.frame + 1 = ap (λ (none : Bool). cond none end.frame (end.frame + 1)) some in
          omega (arith, frame, is.0.frame)
      from (inr (inl (inl past, has))) = omega (arith, past.1, frame_grows (is_none_staged end.staged) end.frame (settle end).frame refl)
      from (inr (inl (inr later, has))) = absurd (omega (arith, same, later))
      from (inr (inr dropped)) = absurd (omega (arith, same, dropped.later))

-- a ticket of puts has the number of the first of them, and their count
pub numbers_puts : (tells : Bool) (o : Opening) (h : List Step) (stage : Step) (t : Ticket) (events : List Content) → IsRun tells (opening o) (h ++ stage ∷ []) → Stages (state_after (opening o) h) stage.call t (Puts events) → ReadsNone h → (t.first ≡ next o.base (commits (opening o) h)) × (t.count ≡ length events)
numbers_puts tells o h stage t events run stages none =
    let s : State = state_after (opening o) h in
    let its = numbers_as tells s stage.call t events (admitted tells (opening o) h stage [] run) stages in
    let j : List Entry = journal (opening o) h in
    let puts : length (put_events (j ++ s.staged)) ≡ length (put_events j) + length (put_events s.staged) = ap (λ (l : List Content). length l) (put_events-append j s.staged) ∙ length-append (put_events j) (put_events s.staged) in
    (omega (arith, its.0, first_run (opening o) h none, puts), its.1)
