-- Each call leaves a channel whole.
use Rattle.std.proofs.Common.{◌⊎◌, inl, inr, ◌≡◌, ◌<◌, ◌≤◌, ◌+◌, ◌-◌, ◌^◌, ◌++◌, ◌∷◌, [], ℕ, List, length, length-append, Option, Some, None, Ok, Err, Result, Bool, true, false, nat_lt, cond, refl, sym, ◌∙◌, ap, subst, arith}
use Rattle.flume_host.specs.Folder.{Folder, IsImage}
use Rattle.flume_host.proofs.Moments.{clock_rises}
use Rattle.flume_host.proofs.Telling.{back}
use Rattle.flume_host.specs.Told.{LeavesOnly, Tells, Told, clock}
use Rattle.event_core.specs.Content.{Content}
use Rattle.event_core.specs.Journal.{Base, is_among, taken_numbers}
use Rattle.event_core.specs.declared.journal.Entry.{Entry}
use Rattle.event_core.specs.declared.journal.Entry.TheVariants.{Puts, Takes}
use Rattle.channel_log.specs.Writer.{Writer}
use Rattle.channel_face.specs.Token.{Token}
use Rattle.channel_face.specs.History.{Moves}
use Rattle.channel_face.specs.Machine.{State, Call, RollbackPut, RollbackTake, StagePut, StageTake, AdmitsBegin, after_begin, close, entry_of, next_number, puts_of, takes_of, settle, size_of_list, stage, ticket}
use Rattle.channel_face.specs.declared.replies.Kind.TheVariants.{File as OnFile}
use Rattle.channel_face.specs.declared.replies.BeginRefused.{BeginRefused}
use Rattle.channel_face.specs.declared.replies.StageCause.{StageCause}
use Rattle.channel_face.specs.declared.replies.Ticket.{Ticket}
use Rattle.channel_face.specs.Sound.{number_of, times, IsSoundState}
use Rattle.channel_face.proofs.Numbers.{among_times, number_high}
use Rattle.channel_face.proofs.Opened.{puts_of-some, takes_of-some}
use Rattle.channel_face.proofs.Sound.{sound_after}
use Rattle.txn_core.proofs.Kept.{few_opened}
use Rattle.channel_replay.specs.StartLaws.{done_of}
use Rattle.channel_writing.specs.Mirrors.{busy, one_if_done}
use Rattle.channel_writing.specs.Written.{IsLogged, MayRecover, MayRest, OnDisk, Waits}
use Rattle.channel_writing.specs.Whole.{IsWhole}
use Rattle.channel_writing.proofs.Opens.{busy_push, busy_without, length_without}
use Rattle.channel_writing.proofs.Ending.{begin_mirrored, end_mirrored}
use Rattle.channel_writing.proofs.Flushing.{rest_exactly}
use Rattle.channel_writing.proofs.Writes.{disk_steps}
use Rattle.channel_writing.specs.Touches.{WritesOn, HadNoRoom, IsSpentLog, Rests, length_before}
use Rattle.std.specs.Prelude.{IsSomeAnd}
use Rattle.flume_host.specs.declared.names.FileName.TheVariants.{Log}
use Rattle.channel_log.specs.Frames.{header, opened}
use Rattle.channel_log.specs.Writer.{HasRoom, IsPending, file_of}
use Rattle.channel_writing.specs.Mirrors.{Mirrors}
use Rattle.channel_replay.specs.Marks.{Past}
use Rattle.record_form.specs.declared.record.Rec.{Rec}
use Rattle.std.proofs.lemmas.Bool.Decides.{nat_tests}
use Rattle.std.proofs.lemmas.List.{get_or_past}
use Rattle.channel_face.proofs.Sound.{sound_broken}
use Rattle.channel_face.specs.Machine.{is_some_of, stage_put_refusal, stage_take_refusal, or_else, room_refusal}
use Rattle.channel_face.specs.declared.replies.StageCause.TheVariants as StageNo
use Rattle.channel_face.specs.declared.replies.Counter.TheVariants.{Number}

differ : {A : Type 0} → true ≡ false → A
differ is = absurd (cc)

-- the log is as before, and the state changed so that it has no record
log_same : (told : Option Told) (w : Writer) (b : ℕ) (s s' : State) → IsLogged told w b s → b ≡ busy s'.opened → length s'.opened ≤ 1024 → s'.broken ≡ s.broken → s'.rules.limits.max_file ≡ s.rules.limits.max_file → s.txn ≤ s'.txn
    → ((start : Base) (settled : Past) (records : List Rec) → Mirrors start s settled records → Mirrors start s' settled records) → IsLogged told w b s'
log_same told w b s s' log many few broken limit up step = record {
  busy_is = many;
  few = few;
  room = log.room;
  limit = log.limit ∙ sym limit;
  waits = λ whole. same (log.waits (sym broken ∙ whole));
}
  where
    same : Waits told w s → Waits told w s'
    same waits = record { records = waits.records; pending = waits.pending; disk = λ t is. disk_steps t w s s' waits.records waits.records (waits.disk t is) up (λ start settled. step start settled waits.records) }

-- a call that leaves the disk and what is settled and staged alone leaves the images, too
rests_closed : (told : Option Told) (s s' : State) (number : ℕ) (b : Bool) → s' ≡ cond b (close number s) s → MayRest told s → MayRest told s'
rests_closed told s s' number true is rests = subst (λ (v : State). MayRest told v) (sym is) rests
rests_closed told s s' number false is rests = subst (λ (v : State). MayRest told v) (sym is) rests

-- what a crash leaves after a run at each moment of which it leaves this
pub rests_over : (told told' : Option Told) (s : State) → Tells told told' (λ t u. LeavesOnly t u (MayRecover s)) → MayRest told' s
rests_over told told' s tells u is image are =
    let b = back told told' (λ t v. LeavesOnly t v (MayRecover s)) tells u is in
    b.2.each (clock u) image (clock_rises b.0 u (MayRecover s) b.2) (subst (λ (f : Folder). IsImage f image) (sym (get_or_past u.past (clock u) u.now (omega arith))) are)

-- a channel that was not broken, and did not break, is not broken
pub still_not : (s s' : State) → s.broken ≡ false → s'.broken ≡ s.broken → s'.broken ≡ true → ⊥
still_not s s' still same broken = differ (sym broken ∙ (same ∙ still))

-- a call leaves a sound state sound
pub sound_then : (s : State) (call : Call) (s' : State) → Moves true s call s' → IsSoundState s → IsSoundState s'
sound_then s call s' moves sound = subst IsSoundState (sym moves.state) (sound_after true s call sound moves.admitted)

begun_logged : (told : Option Told) (w : Writer) (b : ℕ) (s : State) (entry : Entry) → IsLogged told w b s → done_of (Some entry) ≡ None → length s.opened < 1024 → s.txn < 2 ^ 64 - 1 → IsLogged told w b (record s { opened = s.opened ++ (s.txn, entry) ∷ []; txn = s.txn + 1 })
begun_logged told w b s entry log idle room below =
    log_same told w b s (record s { opened = s.opened ++ (s.txn, entry) ∷ []; txn = s.txn + 1 }) log (omega (arith, log.busy_is, busy_push s.opened (s.txn, entry), ap one_if_done idle)) (omega (arith, room, length-append s.opened ((s.txn, entry) ∷ []))) refl refl (omega arith)
    (λ start settled records m. begin_mirrored start s settled records entry m idle room below)

-- a transaction that begins, or is refused, leaves the channel whole
pub begun_whole : (told : Option Told) (w : Writer) (b : ℕ) (s s' : State) (entry : Entry) (reply : Result Token BeginRefused) → IsWhole told w b s → AdmitsBegin s reply → s' ≡ after_begin entry s reply → IsSoundState s' → done_of (Some entry) ≡ None → IsWhole told w b s'
begun_whole told w b s s' entry (Ok token) whole may is sound idle =
    let few = few_opened s may.0 in
    record {
      logged = λ still. subst (λ (v : State). IsLogged told w b v) (sym is) (begun_logged told w b s entry (whole.logged few.0) idle few.1 few.2);
      left = λ broken. absurd (still_not s s' few.0 (ap (λ (v : State). v.broken) is) broken);
      sound = sound;
      kind = ap (λ (v : State). v.rules.kind) is ∙ whole.kind;
    }
begun_whole told w b s s' entry (Err e) whole may is sound idle = subst (λ (v : State). IsWhole told w b v) (sym is) whole

-- what is staged took earlier numbers
pub staged_below : (s : State) → IsSoundState s → (n : ℕ) → next_number s ≤ n → is_among (taken_numbers s.staged) n ≡ false
staged_below s sound n more = from (among_times n (taken_numbers s.staged))
  where
    from : ((is_among (taken_numbers s.staged) n ≡ true) × (1 ≤ times n (taken_numbers s.staged))) ⊎ ((is_among (taken_numbers s.staged) n ≡ false) × (times n (taken_numbers s.staged) ≡ 0)) → is_among (taken_numbers s.staged) n ≡ false
    from (inl there) =
        let none : number_of n s.items ≡ 0 = number_high n 0 s.items s.first sound.rising (omega (arith, more)) in
        absurd (omega (arith, there.1, sound.held n, none))
    from (inr none) = none.0

-- a channel that broke is whole where a crash leaves what may be recovered to
pub failed_whole : (told : Option Told) (w : Writer) (b : ℕ) (s : State) → MayRest told s → IsSoundState s → s.rules.kind ≡ OnFile → IsWhole told w b (record s { broken = true })
failed_whole told w b s rests sound kind = record { logged = λ still. differ still; left = λ _. rests; sound = sound_broken s sound; kind = kind }

-- a transaction that did nothing ends
ended_logged : (told : Option Told) (w : Writer) (b : ℕ) (s : State) (txn : ℕ) (entry : Entry) → IsLogged told w b s → entry_of txn s.opened ≡ Some entry → done_of (Some entry) ≡ None → IsLogged told w b (close txn s)
ended_logged told w b s txn entry log is idle =
    log_same told w b s (close txn s) log (omega (arith, log.busy_is, busy_without s.opened txn entry is, ap one_if_done idle)) (omega (arith, log.few, length_without s.opened txn)) refl refl (omega arith)
    (λ start settled records m. end_mirrored start s settled records txn entry m is idle)

fits_number : (most n : ℕ) → cond (nat_lt most n) (Some (StageNo.Spent Number)) None ≡ None → n ≤ most
fits_number most n none = grind (arith, nat_tests)

or_none : (a b : Option StageCause) → or_else a b ≡ None → b ≡ None
or_none None b none = none
or_none (Some x) b none = absurd (cc)

rolled_put : (told : Option Told) (w : Writer) (b : ℕ) (s s' : State) (token : Token) (list : Option (List Content)) → IsWhole told w b s → s.broken ≡ false → puts_of s token ≡ list → s' ≡ cond (is_some_of list) (close token.number s) s → size_of_list list ≡ 0 → IsLogged told w b s'
rolled_put told w b s s' token None whole still is to none = subst (λ (v : State). IsLogged told w b v) (sym to) (whole.logged still)
rolled_put told w b s s' token (Some []) whole still is to none = subst (λ (v : State). IsLogged told w b v) (sym to) (ended_logged told w b s token.number (Puts []) (whole.logged still) ((puts_of-some s token [] is).1) refl)
rolled_put told w b s s' token (Some (x ∷ xs)) whole still is to none = absurd (omega (arith, none))

-- giving up puts where there are none leaves the channel whole
pub rollback_put_idle : (told : Option Told) (w : Writer) (b : ℕ) (s s' : State) (token : Token) (ended : Bool) → IsWhole told w b s → Moves true s (RollbackPut token ended) s' → size_of_list (puts_of s token) ≡ 0 → IsWhole told w b s'
rollback_put_idle told w b s s' token ended whole moves none =
    let to : s' ≡ cond (is_some_of (puts_of s token)) (close token.number s) s = moves.state ∙ ap (λ (e : Bool). cond e (close token.number s) s) moves.admitted in
    record {
      logged = λ still. rolled_put told w b s s' token (puts_of s token) whole (sym (same_broken (is_some_of (puts_of s token)) to) ∙ still) refl to none;
      left = λ broken. rests_closed told s s' token.number (is_some_of (puts_of s token)) to (whole.left (sym (same_broken (is_some_of (puts_of s token)) to) ∙ broken));
      sound = sound_then s (RollbackPut token ended) s' moves whole.sound;
      kind = same_kind (is_some_of (puts_of s token)) to ∙ whole.kind;
    }
  where
    same_broken : (b : Bool) → s' ≡ cond b (close token.number s) s → s'.broken ≡ s.broken
    same_broken true is = ap (λ (v : State). v.broken) is
    same_broken false is = ap (λ (v : State). v.broken) is

    same_kind : (b : Bool) → s' ≡ cond b (close token.number s) s → s'.rules.kind ≡ s.rules.kind
    same_kind true is = ap (λ (v : State). v.rules.kind) is
    same_kind false is = ap (λ (v : State). v.rules.kind) is

-- giving up puts of a broken channel leaves it whole
pub rollback_put_broken : (told : Option Told) (w : Writer) (b : ℕ) (s s' : State) (token : Token) (ended : Bool) → IsWhole told w b s → Moves true s (RollbackPut token ended) s' → s'.broken ≡ true → IsWhole told w b s'
rollback_put_broken told w b s s' token ended whole moves broken = record {
  logged = λ still. differ (sym broken ∙ still);
  left = λ _. rests_closed told s s' token.number ended moves.state (whole.left (sym (same_broken ended moves.state) ∙ broken));
  sound = sound_then s (RollbackPut token ended) s' moves whole.sound;
  kind = same_kind ended moves.state ∙ whole.kind;
}
  where
    same_broken : (b : Bool) → s' ≡ cond b (close token.number s) s → s'.broken ≡ s.broken
    same_broken true is = ap (λ (v : State). v.broken) is
    same_broken false is = ap (λ (v : State). v.broken) is

    same_kind : (b : Bool) → s' ≡ cond b (close token.number s) s → s'.rules.kind ≡ s.rules.kind
    same_kind true is = ap (λ (v : State). v.rules.kind) is
    same_kind false is = ap (λ (v : State). v.rules.kind) is

-- A transaction of puts that did something.
pub record DidPut (s : State) (token : Token) : Type 0 where
  pub events : List Content
  pub list : puts_of s token ≡ Some events
  pub entry : entry_of token.number s.opened ≡ Some (Puts events)
  pub some : 0 < length events

did_put_list : (s : State) (token : Token) (list : Option (List Content)) → puts_of s token ≡ list → 0 < size_of_list list → DidPut s token
did_put_list s token None is some = absurd (omega (arith, some))
did_put_list s token (Some events) is some = record { events = events; list = is; entry = (puts_of-some s token events is).1; some = some }

-- a token with events put is of a transaction that did something
pub did_put : (s : State) (token : Token) → 0 < size_of_list (puts_of s token) → DidPut s token
did_put s token some = did_put_list s token (puts_of s token) refl some

-- puts of some events count as something done
pub put_was_done : (events : List Content) → 0 < length events → done_of (Some (Puts events)) ≡ Some (Puts events)
put_was_done [] some = absurd (omega (arith, some))
put_was_done (x ∷ xs) some = refl

-- giving up puts with a record of it leaves the channel whole
pub rollback_put_whole : (told : Option Told) (w : Writer) (b : ℕ) (s s' : State) (token : Token) (ended : Bool) → s.broken ≡ false → IsSoundState s → s.rules.kind ≡ OnFile → Moves true s (RollbackPut token ended) s' → DidPut s token → IsLogged told w b (close token.number s) → IsWhole told w b s'
rollback_put_whole told w b s s' token ended whole sound kind moves did log =
    let is : ended ≡ true = moves.admitted ∙ ap is_some_of did.list in
    let to : s' ≡ close token.number s = moves.state ∙ ap (λ (e : Bool). cond e (close token.number s) s) is in
    record {
      logged = λ still. subst (λ (v : State). IsLogged told w b v) (sym to) log;
      left = λ broken. absurd (still_not s s' whole (ap (λ (v : State). v.broken) to) broken);
      sound = sound_then s (RollbackPut token ended) s' moves sound;
      kind = ap (λ (v : State). v.rules.kind) to ∙ kind;
    }

rolled_take : (told : Option Told) (w : Writer) (b : ℕ) (s s' : State) (token : Token) (list : Option (List ℕ)) → IsWhole told w b s → s.broken ≡ false → takes_of s token ≡ list → s' ≡ cond (is_some_of list) (close token.number s) s → size_of_list list ≡ 0 → IsLogged told w b s'
rolled_take told w b s s' token None whole still is to none = subst (λ (v : State). IsLogged told w b v) (sym to) (whole.logged still)
rolled_take told w b s s' token (Some []) whole still is to none = subst (λ (v : State). IsLogged told w b v) (sym to) (ended_logged told w b s token.number (Takes []) (whole.logged still) ((takes_of-some s token [] is).1) refl)
rolled_take told w b s s' token (Some (x ∷ xs)) whole still is to none = absurd (omega (arith, none))

-- giving up takes where there are none leaves the channel whole
pub rollback_take_idle : (told : Option Told) (w : Writer) (b : ℕ) (s s' : State) (token : Token) (ended : Bool) → IsWhole told w b s → Moves true s (RollbackTake token ended) s' → size_of_list (takes_of s token) ≡ 0 → IsWhole told w b s'
rollback_take_idle told w b s s' token ended whole moves none =
    let to : s' ≡ cond (is_some_of (takes_of s token)) (close token.number s) s = moves.state ∙ ap (λ (e : Bool). cond e (close token.number s) s) moves.admitted in
    record {
      logged = λ still. rolled_take told w b s s' token (takes_of s token) whole (sym (same_broken (is_some_of (takes_of s token)) to) ∙ still) refl to none;
      left = λ broken. rests_closed told s s' token.number (is_some_of (takes_of s token)) to (whole.left (sym (same_broken (is_some_of (takes_of s token)) to) ∙ broken));
      sound = sound_then s (RollbackTake token ended) s' moves whole.sound;
      kind = same_kind (is_some_of (takes_of s token)) to ∙ whole.kind;
    }
  where
    same_broken : (b : Bool) → s' ≡ cond b (close token.number s) s → s'.broken ≡ s.broken
    same_broken true is = ap (λ (v : State). v.broken) is
    same_broken false is = ap (λ (v : State). v.broken) is

    same_kind : (b : Bool) → s' ≡ cond b (close token.number s) s → s'.rules.kind ≡ s.rules.kind
    same_kind true is = ap (λ (v : State). v.rules.kind) is
    same_kind false is = ap (λ (v : State). v.rules.kind) is

-- giving up takes of a broken channel leaves it whole
pub rollback_take_broken : (told : Option Told) (w : Writer) (b : ℕ) (s s' : State) (token : Token) (ended : Bool) → IsWhole told w b s → Moves true s (RollbackTake token ended) s' → s'.broken ≡ true → IsWhole told w b s'
rollback_take_broken told w b s s' token ended whole moves broken = record {
  logged = λ still. differ (sym broken ∙ still);
  left = λ _. rests_closed told s s' token.number ended moves.state (whole.left (sym (same_broken ended moves.state) ∙ broken));
  sound = sound_then s (RollbackTake token ended) s' moves whole.sound;
  kind = same_kind ended moves.state ∙ whole.kind;
}
  where
    same_broken : (b : Bool) → s' ≡ cond b (close token.number s) s → s'.broken ≡ s.broken
    same_broken true is = ap (λ (v : State). v.broken) is
    same_broken false is = ap (λ (v : State). v.broken) is

    same_kind : (b : Bool) → s' ≡ cond b (close token.number s) s → s'.rules.kind ≡ s.rules.kind
    same_kind true is = ap (λ (v : State). v.rules.kind) is
    same_kind false is = ap (λ (v : State). v.rules.kind) is

-- A transaction of takes that did something.
pub record DidTake (s : State) (token : Token) : Type 0 where
  pub numbers : List ℕ
  pub list : takes_of s token ≡ Some numbers
  pub entry : entry_of token.number s.opened ≡ Some (Takes numbers)
  pub some : 0 < length numbers

did_take_list : (s : State) (token : Token) (list : Option (List ℕ)) → takes_of s token ≡ list → 0 < size_of_list list → DidTake s token
did_take_list s token None is some = absurd (omega (arith, some))
did_take_list s token (Some numbers) is some = record { numbers = numbers; list = is; entry = (takes_of-some s token numbers is).1; some = some }

-- a token with events taken is of a transaction that did something
pub did_take : (s : State) (token : Token) → 0 < size_of_list (takes_of s token) → DidTake s token
did_take s token some = did_take_list s token (takes_of s token) refl some

-- takes of some events count as something done
pub take_was_done : (numbers : List ℕ) → 0 < length numbers → done_of (Some (Takes numbers)) ≡ Some (Takes numbers)
take_was_done [] some = absurd (omega (arith, some))
take_was_done (x ∷ xs) some = refl

-- giving up takes with a record of it leaves the channel whole
pub rollback_take_whole : (told : Option Told) (w : Writer) (b : ℕ) (s s' : State) (token : Token) (ended : Bool) → s.broken ≡ false → IsSoundState s → s.rules.kind ≡ OnFile → Moves true s (RollbackTake token ended) s' → DidTake s token → IsLogged told w b (close token.number s) → IsWhole told w b s'
rollback_take_whole told w b s s' token ended whole sound kind moves did log =
    let is : ended ≡ true = moves.admitted ∙ ap is_some_of did.list in
    let to : s' ≡ close token.number s = moves.state ∙ ap (λ (e : Bool). cond e (close token.number s) s) is in
    record {
      logged = λ still. subst (λ (v : State). IsLogged told w b v) (sym to) log;
      left = λ broken. absurd (still_not s s' whole (ap (λ (v : State). v.broken) to) broken);
      sound = sound_then s (RollbackTake token ended) s' moves sound;
      kind = ap (λ (v : State). v.rules.kind) to ∙ kind;
    }

-- What a stage of puts that was done says.
pub record StagedPuts (s : State) (token : Token) (given : Ticket) : Type 0 where
  pub events : List Content
  pub entry : entry_of token.number s.opened ≡ Some (Puts events)
  pub still : s.broken ≡ false
  pub count : given.count ≡ length events
  pub first : given.first ≡ next_number s
  pub fits : next_number s + length events ≤ 2 ^ 64 - 1

still_if : (b : Bool) (cause : Option StageCause) → cond b (Some StageNo.Broken) cause ≡ None → (b ≡ false) × (cause ≡ None)
still_if true cause is = absurd (cc)
still_if false cause is = (refl, is)

staged_puts_list : (s : State) (token : Token) (given : Ticket) (list : Option (List Content)) → puts_of s token ≡ list → stage_put_refusal s list ≡ None → given ≡ ticket s (next_number s) (size_of_list list) → StagedPuts s token given
staged_puts_list s token given None is none given_is = absurd (cc)
staged_puts_list s token given (Some events) is none given_is =
    let two = still_if s.broken _ none in
    record {
      events = events;
      entry = (puts_of-some s token events is).1;
      still = two.0;
      count = ap (λ (t : Ticket). t.count) given_is;
      first = ap (λ (t : Ticket). t.first) given_is;
      fits = fits_number (2 ^ 64 - 1) (next_number s + length events) (or_none (room_refusal s.rules.kind s (length events)) (cond (nat_lt (2 ^ 64 - 1) (next_number s + length events)) (Some (StageNo.Spent Number)) None) two.1);
    }

-- what a commit of puts that succeeded found
pub staged_puts : (s s' : State) (token : Token) (given : Ticket) → Moves true s (StagePut token (Ok given)) s' → StagedPuts s token given
staged_puts s s' token given moves = staged_puts_list s token given (puts_of s token) refl moves.admitted.0 moves.admitted.1

pub record StagedTakes (s : State) (token : Token) (given : Ticket) : Type 0 where
  pub numbers : List ℕ
  pub entry : entry_of token.number s.opened ≡ Some (Takes numbers)
  pub still : s.broken ≡ false
  pub count : given.count ≡ length numbers

staged_takes_list : (s : State) (token : Token) (given : Ticket) (list : Option (List ℕ)) → takes_of s token ≡ list → stage_take_refusal s list ≡ None → given ≡ ticket s 0 (size_of_list list) → StagedTakes s token given
staged_takes_list s token given None is none given_is = absurd (cc)
staged_takes_list s token given (Some numbers) is none given_is =
    record {
      numbers = numbers;
      entry = (takes_of-some s token numbers is).1;
      still = (still_if s.broken None none).0;
      count = ap (λ (t : Ticket). t.count) given_is;
    }

-- what a commit of takes that succeeded found
pub staged_takes : (s s' : State) (token : Token) (given : Ticket) → Moves true s (StageTake token (Ok given)) s' → StagedTakes s token given
staged_takes s s' token given moves = staged_takes_list s token given (takes_of s token) refl moves.admitted.0 moves.admitted.1

-- what was staged leaves the channel whole
pub stage_whole : (told : Option Told) (w : Writer) (b : ℕ) (s s' : State) (number : ℕ) (entry : Entry) → s.broken ≡ false → s.rules.kind ≡ OnFile → IsSoundState s' → s' ≡ stage number (entry_of number s.opened) s → entry_of number s.opened ≡ Some entry → IsLogged told w b (stage number (Some entry) s) → IsWhole told w b s'
stage_whole told w b s s' number entry whole kind sound is found log =
    let to : s' ≡ stage number (Some entry) s = is ∙ ap (λ (e : Option Entry). stage number e s) found in
    record {
      logged = λ still. subst (λ (v : State). IsLogged told w b v) (sym to) log;
      left = λ broken. absurd (still_not s s' whole (ap (λ (v : State). v.broken) to ∙ stage_broken number (Some entry) s) broken);
      sound = sound;
      kind = ap (λ (v : State). v.rules.kind) to ∙ (stage_kind number (Some entry) s ∙ kind);
    }
  where
    stage_broken : (n : ℕ) (e : Option Entry) (s : State) → (stage n e s).broken ≡ s.broken
    stage_broken n None s = refl
    stage_broken n (Some (Puts [])) s = refl
    stage_broken n (Some (Takes [])) s = refl
    stage_broken n (Some (Puts (x ∷ xs))) s = refl
    stage_broken n (Some (Takes (x ∷ xs))) s = refl

    stage_kind : (n : ℕ) (e : Option Entry) (s : State) → (stage n e s).rules.kind ≡ s.rules.kind
    stage_kind n None s = refl
    stage_kind n (Some (Puts [])) s = refl
    stage_kind n (Some (Takes [])) s = refl
    stage_kind n (Some (Puts (x ∷ xs))) s = refl
    stage_kind n (Some (Takes (x ∷ xs))) s = refl

-- a transaction that did nothing is staged as one that ends
pub stage_puts_idle : (told : Option Told) (w : Writer) (b : ℕ) (s : State) (number : ℕ) (events : List Content) → IsLogged told w b s → entry_of number s.opened ≡ Some (Puts events) → length events ≡ 0 → IsLogged told w b (stage number (Some (Puts events)) s)
stage_puts_idle told w b s number [] log is none = ended_logged told w b s number (Puts []) log is refl
stage_puts_idle told w b s number (e ∷ events) log is none = absurd (omega (arith, none))

-- a commit of no takes needs no record
pub stage_takes_idle : (told : Option Told) (w : Writer) (b : ℕ) (s : State) (number : ℕ) (numbers : List ℕ) → IsLogged told w b s → entry_of number s.opened ≡ Some (Takes numbers) → length numbers ≡ 0 → IsLogged told w b (stage number (Some (Takes numbers)) s)
stage_takes_idle told w b s number [] log is none = ended_logged told w b s number (Takes []) log is refl
stage_takes_idle told w b s number (n ∷ numbers) log is none = absurd (omega (arith, none))

-- what a crash leaves between two calls
pub whole_rests : (told : Option Told) (w : Writer) (b : ℕ) (s : State) → IsWhole told w b s → Rests told s
whole_rests told w b s whole still t is image are =
    let waits : Waits told w s = (whole.logged still).waits still in
    rest_exactly t w s waits.records image (waits.disk t is) are

some_side : (a b : ℕ) → (a < b) ⊎ (b ≤ a)
some_side a b = grind arith

-- the writer's file is the last that there can be, and has that length
pub whole_spent : (told : Option Told) (w : Writer) (b : ℕ) (s : State) (P : Type 0) → IsWhole told w b s → s.broken ≡ false → (P → (w.file ≡ 4_294_967_295) × (s.rules.limits.max_file ≤ w.gate + 1)) → ((w.file ≡ 4_294_967_295) × (s.rules.limits.max_file ≤ w.gate + 1) → P)
    → (t : Told) → told ≡ Some t → (P → IsSpentLog t s.rules.limits.max_file) × (IsSpentLog t s.rules.limits.max_file → P)
whole_spent told w b s P whole still to back t is = (λ p. spent (to p), λ there. back (at_end there (some_side w.file 4_294_967_295)))
  where
    most : ℕ
    most = s.rules.limits.max_file

    waits : Waits told w s
    waits = (whole.logged still).waits still

    disk : OnDisk t w s waits.records
    disk = waits.disk t is

    bytes : List ℕ
    bytes = file_of disk.birth w.file disk.frames

    size : length bytes ≡ w.gate + 1
    size = omega (arith, length-append (header disk.birth w.file ++ opened disk.frames) (0 ∷ []), disk.rest.offset)

    here : w.file ≡ 4_294_967_295 → t.reads (Log 4_294_967_295) ≡ Some bytes
    here file = ap (λ (n : ℕ). t.reads (Log n)) (sym file) ∙ disk.rest.reads

    spent : (w.file ≡ 4_294_967_295) × (most ≤ w.gate + 1) → IsSpentLog t most
    spent at = subst (λ (o : Option (List ℕ)). IsSomeAnd o (λ bytes. most ≤ length bytes)) (sym (here at.0)) (omega (arith, at.1, size))

    at_end : IsSpentLog t most → (w.file < 4_294_967_295) ⊎ (4_294_967_295 ≤ w.file) → (w.file ≡ 4_294_967_295) × (most ≤ w.gate + 1)
    at_end there (inl less) = absurd (subst (λ (o : Option (List ℕ)). IsSomeAnd o (λ bytes. most ≤ length bytes)) (disk.none 4_294_967_295 less) there)
    at_end there (inr more) =
        let file : w.file ≡ 4_294_967_295 = omega (arith, more, disk.small) in
        let long : most ≤ length bytes = subst (λ (o : Option (List ℕ)). IsSomeAnd o (λ bytes. most ≤ length bytes)) (here file) there in
        (file, omega (arith, long, size))

-- a file gained the frame that waited, which had no room of this size left
gained : (t u : Told) (w w' : Writer) (b b' : ℕ) (s : State) (size : ℕ) → s.broken ≡ false → IsLogged (Some t) w b s → IsLogged (Some u) w' b' (settle s)
    → (1 ≤ w.count → WritesOn w w') → (HasRoom w size → ⊥) → (w.bytes ≡ [] → HasRoom w size) → HadNoRoom size t u
gained t u w w' b b' s size still log log' writer full room = from (writer (some (some_side w.count 1)))
  where
    waits : Waits (Some t) w s
    waits = log.waits still

    disk : OnDisk t w s waits.records
    disk = waits.disk t refl

    waits' : Waits (Some u) w' (settle s)
    waits' = log'.waits still

    disk' : OnDisk u w' (settle s) waits'.records
    disk' = waits'.disk u refl

    nothing : (records : List Rec) → IsPending w records → w.count ≡ 0 → w.bytes ≡ []
    nothing [] pending none = pending.spelled
    nothing (r ∷ records) pending none = absurd (omega (arith, none, pending.counted))

    some : (w.count < 1) ⊎ (1 ≤ w.count) → 1 ≤ w.count
    some (inl less) = absurd (full (room (nothing waits.records waits.pending (omega (arith, less)))))
    some (inr more) = more

    bytes : List ℕ
    bytes = file_of disk.birth w.file disk.frames

    bytes' : List ℕ
    bytes' = file_of disk'.birth w'.file disk'.frames

    length_is : length bytes ≡ w.gate + 1
    length_is = omega (arith, length-append (header disk.birth w.file ++ opened disk.frames) (0 ∷ []), disk.rest.offset)

    length_now : length bytes' ≡ w'.gate + 1
    length_now = omega (arith, length-append (header disk'.birth w'.file ++ opened disk'.frames) (0 ∷ []), disk'.rest.offset)

    over : (2_097_152 < length w.bytes + size + 6) ⊎ (length w.bytes + size + 6 ≤ 2_097_152) → 2_097_152 < length w.bytes + size + 6
    over (inl more) = more
    over (inr fits) = absurd (full fits)

    much : 2_097_152 < length w.bytes + size + 6
    much = over (some_side 2_097_152 (length w.bytes + size + 6))

    from : WritesOn w w' → HadNoRoom size t u
    from (inl stays) =
        let file : w'.file ≡ w.file = ap (λ (v : Writer). v.file) stays in
        let gate : w'.gate ≡ w.gate + length w.bytes + 6 = ap (λ (v : Writer). v.gate) stays in
        let before : length_before (t.reads (Log w'.file)) ≡ length bytes = ap (λ (n : ℕ). length_before (t.reads (Log n))) file ∙ ap length_before disk.rest.reads in
        record { file = w'.file; now = bytes'; after = disk'.rest.reads; full = omega (arith, much, length_is, length_now, gate, before) }
    from (inr rolled) =
        let file : w'.file ≡ w.file + 1 = ap (λ (v : Writer). v.file) rolled in
        let gate : w'.gate ≡ 16 + length w.bytes + 6 = ap (λ (v : Writer). v.gate) rolled in
        let before : length_before (t.reads (Log w'.file)) ≡ 17 = ap length_before (disk.none w'.file (omega (arith, file))) in
        record { file = w'.file; now = bytes'; after = disk'.rest.reads; full = omega (arith, much, length_now, gate, before) }

-- a put or take that spilled shows that the frame had no room left
pub had_no_room : (told told' : Option Told) (w w' : Writer) (b b' : ℕ) (s : State) (size : ℕ) (P : Told → Told → Type 0) → Tells told told' P → s.broken ≡ false → IsLogged told w b s → IsLogged told' w' b' (settle s)
    → (1 ≤ w.count → WritesOn w w') → (HasRoom w size → ⊥) → (w.bytes ≡ [] → HasRoom w size) → Tells told told' (HadNoRoom size)
had_no_room None None w w' b b' s size P tells still log log' writer full room = tt
had_no_room None (Some u) w w' b b' s size P tells still log log' writer full room = absurd tells
had_no_room (Some t) None w w' b b' s size P tells still log log' writer full room = absurd tells
had_no_room (Some t) (Some u) w w' b b' s size P tells still log log' writer full room = gained t u w w' b b' s size still log log' writer full room
