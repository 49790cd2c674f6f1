-- What each call does to the life, the frame and what is staged.
use Rattle.std.proofs.Common.{◌⊎◌, inl, inr, ◌≡◌, ◌≤◌, ◌+◌, ◌++◌, ◌∷◌, [], ℕ, List, length, length-append, Option, Some, None, Result, Ok, Err, Bool, true, false, cond, refl, sym, ◌∙◌, ap, append_assoc, arith}
use Rattle.std.proofs.lemmas.List.{append-nil}
use Rattle.event_core.specs.Content.{Content}
use Rattle.event_core.specs.Journal.{put_events, next}
use Rattle.event_core.specs.declared.journal.Entry.{Entry}
use Rattle.event_core.specs.declared.journal.Entry.TheVariants.{Puts, Takes}
use Rattle.channel_face.specs.Token.{Token}
use Rattle.channel_face.specs.Machine.{State, Call, BeginPut, BeginTake, Put, Take, StagePut, StageTake, Flush, RollbackPut, RollbackTake, Checkpoint, Prune, Reopen, Kept, Front, Read, after, base_of, kept_base, entry_of, puts_of, takes_of, free, settle, settle_if, stage, is_none_staged, add_put, add_take, after_begin, broken_state}
use Rattle.channel_face.specs.History.{Step, Opening, opening, state_after, kept_by, front_of, journal}
use Rattle.channel_face.specs.Laws.{IsFront, KeepsFront, ReadsNone}
use Rattle.channel_face.specs.declared.replies.BeginRefused.{BeginRefused}
use Rattle.channel_face.specs.declared.replies.PutRefused.TheVariants as PutNo
use Rattle.channel_face.specs.declared.replies.TakeRefused.TheVariants as TakeNo
use Rattle.channel_face.specs.declared.replies.FlushRefused.TheVariants as FlushNo
use Rattle.channel_face.specs.declared.replies.CheckRefused.TheVariants as CheckNo
use Rattle.channel_face.proofs.Numbers.{put_events-append}

-- the same life and frame, and at least what was staged
pub record Stays (s new : State) (kept : List Entry) : Type 0 where
  pub keeps : kept ≡ []
  pub life : new.life ≡ s.life
  pub frame : new.frame ≡ s.frame
  pub ends : new.ends ≡ s.ends
  pub first : new.first ≡ s.first
  pub more : List Entry
  pub staged : new.staged ≡ s.staged ++ more

-- what was staged is settled; where it was something, the frame is a later one
pub record Settles (s new : State) (kept : List Entry) : Type 0 where
  pub keeps : kept ≡ s.staged
  pub life : new.life ≡ s.life
  pub frame : new.frame ≡ cond (is_none_staged s.staged) s.frame (s.frame + 1)
  pub ends : new.ends ≡ s.ends
  pub first : new.first ≡ next (base_of s) s.staged

-- the next life
pub record Reopens (s : State) (call : Call) (new : State) (kept : List Entry) : Type 0 where
  pub source : Kept
  pub front : KeepsFront call → IsFront source
  pub keeps : kept ≡ front_of s.staged source
  pub life : new.life ≡ s.life + 1
  pub frame : new.frame ≡ 1
  pub ends : new.ends ≡ s.ends ++ s.frame ∷ []
  pub first : new.first ≡ (kept_base s source).first

abbrev pub Moves : State → Call → State → List Entry → Type 0
Moves s call new kept = Stays s new kept ⊎ (Settles s new kept ⊎ Reopens s call new kept)

abbrev GoesOn : State → State → List Entry → Type 0
GoesOn s new kept = Stays s new kept ⊎ Settles s new kept

stays : (s new : State) → new.life ≡ s.life → new.frame ≡ s.frame → new.ends ≡ s.ends → new.first ≡ s.first → new.staged ≡ s.staged → GoesOn s new []
stays s new life frame ends first staged = inl (record { keeps = refl; life = life; frame = frame; ends = ends; first = first; more = []; staged = staged ∙ sym (append-nil s.staged) })

same : (s : State) → GoesOn s s []
same s = stays s s refl refl refl refl refl

stages : (s new : State) (entry : Entry) → new.life ≡ s.life → new.frame ≡ s.frame → new.ends ≡ s.ends → new.first ≡ s.first → new.staged ≡ s.staged ++ entry ∷ [] → GoesOn s new []
stages s new entry life frame ends first staged = inl (record { keeps = refl; life = life; frame = frame; ends = ends; first = first; more = entry ∷ []; staged = staged })

settles : (s new : State) → new.life ≡ s.life → new.frame ≡ cond (is_none_staged s.staged) s.frame (s.frame + 1) → new.ends ≡ s.ends → new.first ≡ next (base_of s) s.staged → GoesOn s new s.staged
settles s new life frame ends first = inr (record { keeps = refl; life = life; frame = frame; ends = ends; first = first })

settles_if : (spilled : Bool) (s new : State) → new.life ≡ (settle_if spilled s).life → new.frame ≡ (settle_if spilled s).frame → new.ends ≡ (settle_if spilled s).ends → new.first ≡ (settle_if spilled s).first → new.staged ≡ (settle_if spilled s).staged → GoesOn s new (cond spilled s.staged [])
settles_if true s new life frame ends first staged = settles s new life frame ends first
settles_if false s new life frame ends first staged = stays s new life frame ends first staged

puts_one : (spilled : Bool) (s : State) (number : ℕ) (puts : Option (List Content)) (event : Content) → GoesOn s (add_put (settle_if spilled s) number puts event) (cond spilled s.staged [])
puts_one spilled s number None event = settles_if spilled s (settle_if spilled s) refl refl refl refl refl
puts_one spilled s number (Some events) event = settles_if spilled s (add_put (settle_if spilled s) number (Some events) event) refl refl refl refl refl

takes_one : (spilled : Bool) (s : State) (number : ℕ) (takes : Option (List ℕ)) (items : List (ℕ × Content)) → GoesOn s (add_take (settle_if spilled s) number takes items) (cond spilled s.staged [])
takes_one spilled s number None items = settles_if spilled s (settle_if spilled s) refl refl refl refl refl
takes_one spilled s number (Some numbers) [] = settles_if spilled s (settle_if spilled s) refl refl refl refl refl
takes_one spilled s number (Some numbers) (item ∷ items) = settles_if spilled s (add_take (settle_if spilled s) number (Some numbers) (item ∷ items)) refl refl refl refl refl

begins : (entry : Entry) (s : State) (reply : Result Token BeginRefused) → GoesOn s (after_begin entry s reply) []
begins entry s (Ok token) = stays s (after_begin entry s (Ok token)) refl refl refl refl refl
begins entry s (Err e) = same s

stages_one : (number : ℕ) (entry : Option Entry) (s : State) → GoesOn s (stage number entry s) []
stages_one number None s = same s
stages_one number (Some (Puts [])) s = stays s (stage number (Some (Puts [])) s) refl refl refl refl refl
stages_one number (Some (Takes [])) s = stays s (stage number (Some (Takes [])) s) refl refl refl refl refl
stages_one number (Some (Puts (e ∷ es))) s = stages s (stage number (Some (Puts (e ∷ es))) s) (Puts (e ∷ es)) refl refl refl refl refl
stages_one number (Some (Takes (n ∷ ns))) s = stages s (stage number (Some (Takes (n ∷ ns))) s) (Takes (n ∷ ns)) refl refl refl refl refl

breaks : (s : State) → GoesOn s (broken_state s) []
breaks s = stays s (broken_state s) refl refl refl refl refl

in_life : (s : State) (call : Call) (new : State) (kept : List Entry) → GoesOn s new kept → Moves s call new kept
in_life s call new kept (inl m) = inl m
in_life s call new kept (inr m) = inr (inl m)

-- each call keeps what was staged, settles it, or begins the next life
pub moves : (s : State) (call : Call) → Moves s call (after s call) (kept_by s call)
moves s (BeginPut reply) = in_life s (BeginPut reply) _ _ (begins (Puts []) s reply)
moves s (BeginTake reply) = in_life s (BeginTake reply) _ _ (begins (Takes []) s reply)
moves s (Put token event (Ok done)) = in_life s (Put token event (Ok done)) _ _ (puts_one done.spilled s token.number (puts_of s token) event)
moves s (Put token event (Err PutNo.DiskFault)) = in_life s (Put token event (Err PutNo.DiskFault)) _ _ (breaks s)
moves s (Put token event (Err PutNo.Stale)) = in_life s (Put token event (Err PutNo.Stale)) _ _ (same s)
moves s (Put token event (Err PutNo.Broken)) = in_life s (Put token event (Err PutNo.Broken)) _ _ (same s)
moves s (Put token event (Err (PutNo.Spent counter))) = in_life s (Put token event (Err (PutNo.Spent counter))) _ _ (same s)
moves s (Put token event (Err (PutNo.TxnFull n))) = in_life s (Put token event (Err (PutNo.TxnFull n))) _ _ (same s)
moves s (Put token event (Err (PutNo.TooLarge n))) = in_life s (Put token event (Err (PutNo.TooLarge n))) _ _ (same s)
moves s (Put token event (Err (PutNo.Full n))) = in_life s (Put token event (Err (PutNo.Full n))) _ _ (same s)
moves s (Put token event (Err PutNo.NoMemory)) = in_life s (Put token event (Err PutNo.NoMemory)) _ _ (same s)
moves s (Take token (Ok taken)) = in_life s (Take token (Ok taken)) _ _ (takes_one taken.spilled s token.number (takes_of s token) (free s))
moves s (Take token (Err TakeNo.DiskFault)) = in_life s (Take token (Err TakeNo.DiskFault)) _ _ (breaks s)
moves s (Take token (Err TakeNo.Stale)) = in_life s (Take token (Err TakeNo.Stale)) _ _ (same s)
moves s (Take token (Err TakeNo.Broken)) = in_life s (Take token (Err TakeNo.Broken)) _ _ (same s)
moves s (Take token (Err (TakeNo.Spent counter))) = in_life s (Take token (Err (TakeNo.Spent counter))) _ _ (same s)
moves s (Take token (Err (TakeNo.TxnFull n))) = in_life s (Take token (Err (TakeNo.TxnFull n))) _ _ (same s)
moves s (Take token (Err TakeNo.ReadFault)) = in_life s (Take token (Err TakeNo.ReadFault)) _ _ (same s)
moves s (Take token (Err (TakeNo.Damaged a b))) = in_life s (Take token (Err (TakeNo.Damaged a b))) _ _ (same s)
moves s (Take token (Err TakeNo.NoMemory)) = in_life s (Take token (Err TakeNo.NoMemory)) _ _ (same s)
moves s (StagePut token (Ok given)) = in_life s (StagePut token (Ok given)) _ _ (stages_one token.number (entry_of token.number s.opened) s)
moves s (StagePut token (Err cause)) = in_life s (StagePut token (Err cause)) _ _ (same s)
moves s (StageTake token (Ok given)) = in_life s (StageTake token (Ok given)) _ _ (stages_one token.number (entry_of token.number s.opened) s)
moves s (StageTake token (Err cause)) = in_life s (StageTake token (Err cause)) _ _ (same s)
moves s (Flush (Ok done)) = in_life s (Flush (Ok done)) _ _ (settles s (settle s) refl refl refl refl)
moves s (Flush (Err FlushNo.Broken)) = in_life s (Flush (Err FlushNo.Broken)) _ _ (same s)
moves s (Flush (Err FlushNo.DiskFault)) = in_life s (Flush (Err FlushNo.DiskFault)) _ _ (breaks s)
moves s (Flush (Err (FlushNo.Spent counter))) = in_life s (Flush (Err (FlushNo.Spent counter))) _ _ (same s)
moves s (RollbackPut token true) = in_life s (RollbackPut token true) _ _ (stays s (after s (RollbackPut token true)) refl refl refl refl refl)
moves s (RollbackPut token false) = in_life s (RollbackPut token false) _ _ (same s)
moves s (RollbackTake token true) = in_life s (RollbackTake token true) _ _ (stays s (after s (RollbackTake token true)) refl refl refl refl refl)
moves s (RollbackTake token false) = in_life s (RollbackTake token false) _ _ (same s)
moves s (Checkpoint (Ok done)) = in_life s (Checkpoint (Ok done)) _ _ (settles s (settle s) refl refl refl refl)
moves s (Checkpoint (Err CheckNo.CheckFault)) = in_life s (Checkpoint (Err CheckNo.CheckFault)) _ _ (settles s (settle s) refl refl refl refl)
moves s (Checkpoint (Err CheckNo.DiskFault)) = in_life s (Checkpoint (Err CheckNo.DiskFault)) _ _ (breaks s)
moves s (Checkpoint (Err CheckNo.Broken)) = in_life s (Checkpoint (Err CheckNo.Broken)) _ _ (same s)
moves s (Checkpoint (Err (CheckNo.Spent counter))) = in_life s (Checkpoint (Err (CheckNo.Spent counter))) _ _ (same s)
moves s (Prune reply) = in_life s (Prune reply) _ _ (same s)
moves s (Reopen (Ok r)) = inr (inr (record { source = r.kept; front = λ front. front; keeps = refl; life = refl; frame = refl; ends = refl; first = refl }))
moves s (Reopen (Err e)) = in_life s (Reopen (Err e)) _ _ (breaks s)

-- A channel has had a frame in each life, from 1 on.
pub record IsCounted (s : State) : Type 0 where
  pub lives : s.life ≡ length s.ends + 1
  pub frames : 1 ≤ s.frame

-- settling what is staged never lowers the frame
pub frame_grows : (none : Bool) (frame new : ℕ) → new ≡ cond none frame (frame + 1) → frame ≤ new
frame_grows true frame new is = omega (arith, is)
frame_grows false frame new is = omega (arith, is)

-- no call lowers the life
pub life_grows : (s : State) (call : Call) (new : State) (kept : List Entry) → Moves s call new kept → s.life ≤ new.life
life_grows s call new kept (inl m) = omega (arith, m.life)
life_grows s call new kept (inr (inl m)) = omega (arith, m.life)
life_grows s call new kept (inr (inr m)) = omega (arith, m.life)

-- what a call does leaves a frame for each life
pub counted_moved : (s : State) (call : Call) (new : State) (kept : List Entry) → IsCounted s → Moves s call new kept → IsCounted new
counted_moved s call new kept c (inl m) = record {
  lives = m.life ∙ (c.lives ∙ ap (λ (l : List ℕ). length l + 1) (sym m.ends));
  frames = omega (arith, c.frames, m.frame);
}
counted_moved s call new kept c (inr (inl m)) = record {
  lives = m.life ∙ (c.lives ∙ ap (λ (l : List ℕ). length l + 1) (sym m.ends));
  frames = omega (arith, c.frames, frame_grows (is_none_staged s.staged) s.frame new.frame m.frame);
}
counted_moved s call new kept c (inr (inr m)) =
    let longer : length new.ends ≡ length s.ends + 1 = ap (λ (l : List ℕ). length l) m.ends ∙ length-append s.ends (s.frame ∷ []) in
    record { lives = omega (arith, m.life, c.lives, longer); frames = omega (arith, m.frame) }

-- after each history there has been a frame in each life
pub counted_run : (s : State) (h : List Step) → IsCounted s → IsCounted (state_after s h)
counted_run s [] c = c
counted_run s (step ∷ h) c = counted_run (after s step.call) h (counted_moved s step.call (after s step.call) (kept_by s step.call) c (moves s step.call))

-- the number of the next event goes on by the puts that were settled or kept
first_kept : (s : State) (source : Kept) (kept : List Entry) (new : ℕ) → IsFront source → kept ≡ front_of s.staged source → new ≡ (kept_base s source).first → new ≡ s.first + length (put_events kept)
first_kept s (Front k) kept new front is first = rw is first
first_kept s (Read base) kept new front is first = absurd front

first_moved : (s : State) (call : Call) (new : State) (kept : List Entry) → KeepsFront call → Moves s call new kept → new.first ≡ s.first + length (put_events kept)
first_moved s call new kept front (inl m) = rw m.keeps (omega (arith, m.first))
first_moved s call new kept front (inr (inl m)) = rw m.keeps m.first
first_moved s call new kept front (inr (inr m)) = first_kept s m.source kept new.first (m.front front) m.keeps m.first

-- the number of the next event to be settled rises by the puts in the journal, where no reopen read its list
pub first_run : (s : State) (h : List Step) → ReadsNone h → (state_after s h).first ≡ s.first + length (put_events (journal s h))
first_run s [] none = omega arith
first_run s (step ∷ h) none =
    let new : State = after s step.call in
    let kept : List Entry = kept_by s step.call in
    let puts : length (put_events (kept ++ journal new h)) ≡ length (put_events kept) + length (put_events (journal new h)) = ap (λ (l : List Content). length l) (put_events-append kept (journal new h)) ∙ length-append (put_events kept) (put_events (journal new h)) in
    omega (arith, first_run new h none.1, first_moved s step.call new kept none.0 (moves s step.call), puts)

-- a channel that was opened has its first life and its first frame
pub counted_opening : (o : Opening) → IsCounted (opening o)
counted_opening o = record { lives = omega arith; frames = omega arith }

-- the journal of some calls, and then of further ones
pub journal-append : (s : State) (x y : List Step) → journal s (x ++ y) ≡ journal s x ++ journal (state_after s x) y
journal-append s [] y = refl
journal-append s (step ∷ x) y = ap (λ (l : List Entry). kept_by s step.call ++ l) (journal-append (after s step.call) x y) ∙ sym (append_assoc (kept_by s step.call) (journal (after s step.call) x) (journal (state_after (after s step.call) x) y))
