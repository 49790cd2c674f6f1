-- Each call adds itself to what a channel stands for.
use Rattle.std.proofs.Common.{◌⊎◌, inl, inr, ◌≡◌, ◌≤◌, ◌+◌, ◌++◌, ◌∷◌, [], ℕ, List, length, Option, Result, Ok, Err, Bool, true, false, cond, refl, sym, ◌∙◌, ap, subst, arith}
use Rattle.flume_host.specs.Causes.{Rose}
use Rattle.flume_host.specs.Folder.{IsImage}
use Rattle.flume_host.specs.Told.{Tells, Told, WhereTold, moment_of}
use Rattle.event_core.specs.Content.{Content}
use Rattle.event_core.specs.Journal.{put_events, taken_numbers}
use Rattle.event_core.specs.declared.journal.Entry.{Entry}
use Rattle.channel_face.specs.Token.{Token}
use Rattle.channel_face.specs.Counters.{Tally, capped, counted, put_calls, take_calls}
use Rattle.channel_face.specs.declared.replies.Counts.{Counts}
use Rattle.channel_face.specs.declared.replies.FlushRefused.{FlushRefused}
use Rattle.channel_face.specs.declared.replies.Put.{Put}
use Rattle.channel_face.specs.declared.replies.PutRefused.{PutRefused}
use Rattle.channel_face.specs.declared.replies.TakeRefused.{TakeRefused}
use Rattle.channel_face.specs.declared.replies.TakeRefused.TheVariants as TakeNo
use Rattle.channel_face.specs.declared.replies.Taken.{Taken}
use Rattle.txn_core.specs.Counted.{tally_of}
use Rattle.txn_core.specs.Noted.{noted, one_for_put, one_for_take, quiet}
use Rattle.txn_core.specs.declared.calls.Call.{Call as Noting}
use Rattle.txn_core.specs.declared.calls.Call.TheVariants as notes
use Rattle.txn_core.specs.declared.calls.Reply.{Reply}
use Rattle.channel_face.specs.History.{AddsOne, Moves, Shows, Step, opening, settled_by, state_after}
use Rattle.channel_face.specs.Machine.{State, Call, Flush as FlushCall, Put as PutCall, Take as TakeCall, after, is_some_of}
use Rattle.channel_face.proofs.Adding.{state-push}
use Rattle.channel_writing.specs.Stands.{Seen, StandsIn, is_fault}
use Rattle.channel_writing.specs.Touches.{Flushed, Rests, flushes}
use Rattle.channel_writing.specs.Waiting.{waiting_after}
use Rattle.channel_writing.proofs.Standing.{Touched, adds_loosely, stands_as, touched_by}
use Rattle.channel_writing.proofs.Whole.{whole_rests}
use Rattle.file_channel.specs.Laid.{AreChecks, CheckState}
use Rattle.file_channel.specs.Placed.{IsStateOf}
use Rattle.file_channel.specs.Stands.{FileState, IsStanding, StandsOver, flush_settles, put_spills, take_spills}
use Rattle.file_channel.specs.Stepped.{Steps}
use Rattle.file_channel.proofs.Free.{checks_spared, keeps_after}

-- What a method of the channel did in a state, and what the disk told and counted.
pub record Did (told told' : Option Told) (f f' : ℕ) (old new : FileState) (call : Call) (s : State) : Type 0 where
  pub steps : Steps told told' old.logged new.logged call s
  pub tally : new.tally ≡ counted s call old.tally
  pub waits : new.waiting ≡ waiting_after s call old.waiting
  pub up : f ≤ f'
  pub cause : is_fault call ≡ true → Rose f f'
  pub still : is_fault call ≡ false → f' ≡ f
  pub quiet : flushes call ≡ false → told' ≡ told
  pub flushed : flushes call ≡ true → Tells told told' (λ t u. Flushed s t u)

-- the same of a call that may leave in a crash what a flush may
pub record DidSo (told told' : Option Told) (f f' : ℕ) (old new : FileState) (call : Call) (s : State) : Type 0 where
  pub steps : Steps told told' old.logged new.logged call s
  pub tally : new.tally ≡ counted s call old.tally
  pub waits : new.waiting ≡ waiting_after s call old.waiting
  pub up : f ≤ f'
  pub cause : is_fault call ≡ true → Rose f f'
  pub still : is_fault call ≡ false → f' ≡ f
  pub touched : Touched told told' s

abbrev seen_in : FileState → State → Seen
seen_in c s = record { state = s; tally = c.tally; waiting = c.waiting }

-- a call that may leave in a crash what a flush may adds itself
pub adds_did_so : (told told' : Option Told) (f f' : ℕ) (old new : FileState) (call : Call) → ((s : State) → IsStateOf told old.logged s → DidSo told told' f f' old new call s) → AddsOne (StandsOver told f old) (StandsOver told' f' new) call (moment_of told')
adds_did_so told told' f f' old new call each start h pass stands =
    let s : State = state_after (opening start) h in
    let did = each s stands.state in
    let step : Step = record { pass = pass; call = call; moment = moment_of told' } in
    let moves : Moves (is_some_of told) s call (after s call) = record { admitted = did.steps.admitted; state = refl } in
    let rests : Rests told' (after s call) = whole_rests told' new.logged.log new.logged.busy (after s call) did.steps.stands.whole in
    let before : StandsIn told f (seen_in old s) start h = stands_as (IsStateOf told old.logged) (λ v. v ≡ s) told f old.tally old.waiting start h refl stands in
    let longer : StandsIn told' f' (seen_in new (after s call)) start (h ++ step ∷ []) =
    adds_loosely told told' f f' (seen_in old s) call (seen_in new (after s call)) moves did.tally did.waits did.up did.cause did.still did.touched rests start h pass before in
    let same : after s call ≡ state_after (opening start) (h ++ step ∷ []) = sym (state-push (opening start) h step) in
    stands_as (λ v. v ≡ after s call) (IsStateOf told' new.logged) told' f' new.tally new.waiting start (h ++ step ∷ []) (subst (λ (v : State). IsStateOf told' new.logged v) same did.steps.stands) longer

-- a method's call adds itself to what the channel stands for
pub adds_did : (told told' : Option Told) (f f' : ℕ) (old new : FileState) (call : Call) → ((s : State) → IsStateOf told old.logged s → Did told told' f f' old new call s) → AddsOne (StandsOver told f old) (StandsOver told' f' new) call (moment_of told')
adds_did told told' f f' old new call each =
    adds_did_so told told' f f' old new call
    (λ s is. let did = each s is in record { steps = did.steps; tally = did.tally; waits = did.waits; up = did.up; cause = did.cause; still = did.still; touched = touched_by told told' s call did.quiet did.flushed })

-- what it stands for has a state
state_there : (told : Option Told) (f : ℕ) (c : FileState) → IsStanding told f c → (s : State) × IsStateOf told c.logged s
state_there told f c stands = (state_after (opening stands.0) stands.1, stands.2.state)

-- a call that flushes or leaves the disk alone makes no checkpoint
pub still_checks : (told told' : Option Told) (f f' : ℕ) (old new : FileState) (call : Call) (c : CheckState) → WhereTold told (λ t. IsImage t.now t.reads) → IsStanding told f old → ((s : State) → IsStateOf told old.logged s → Did told told' f f' old new call s) → AreChecks told c → AreChecks told' c
still_checks told told' f f' old new call c reads stands did are =
    let there = state_there told f old stands in
    let done = did there.0 there.1 in
    checks_spared told told' c reads (keeps_after told told' there.0 call done.quiet done.flushed) are

differ : {A : Type 0} → true ≡ false → A
differ is = absurd (cc)

-- a call that leaves the disk alone
pub did_quietly : (told told' : Option Told) (f f' : ℕ) (old new : FileState) (call : Call) (s : State) → Steps told told' old.logged new.logged call s → new.tally ≡ counted s call old.tally → old.waiting ≡ length old.logged.log.bytes → new.waiting ≡ length new.logged.log.bytes → told' ≡ told → f' ≡ f → is_fault call ≡ false → flushes call ≡ false → Did told told' f f' old new call s
did_quietly told told' f f' old new call s steps tally was now same count no_fault quiet = record {
  steps = steps;
  tally = tally;
  waits = now ∙ (steps.waits ∙ ap (λ (n : ℕ). waiting_after s call n) (sym was));
  up = omega (arith, count);
  cause = λ is. differ (sym is ∙ no_fault);
  still = λ _. count;
  quiet = λ _. same;
  flushed = λ is. differ (sym is ∙ quiet);
}

-- a channel that stands for calls stands for one more after its next call
pub standing_on : (told told' : Option Told) (f f' : ℕ) (c c' : FileState) (call : Call) (m : ℕ) → IsStanding told f c → AddsOne (StandsOver told f c) (StandsOver told' f' c') call m → IsStanding told' f' c'
standing_on told told' f f' c c' call m stands adds = (stands.0, stands.1 ++ record { pass = 0; call = call; moment = m } ∷ [], adds stands.0 stands.1 0 stands.2)

-- what is true of each state for which places and log stand shows wherever the channel stands for an opening and calls
pub shows_each : (told : Option Told) (f : ℕ) (c : FileState) (P : State → Type 0) → ((s : State) → IsStateOf told c.logged s → P s) → Shows (StandsOver told f c) P
shows_each told f c P each start h stands = each (state_after (opening start) h) stands.state

-- counts

tallies : (a b c d p q r t : ℕ) → a ≡ p → b ≡ q → c ≡ r → d ≡ t → ◌≡◌ {A = Tally} (record { put_attempts = a; put_successes = b; take_attempts = c; take_successes = d }) (record { put_attempts = p; put_successes = q; take_attempts = r; take_successes = t })
tallies a b c d p q r t ap_is bq cr dt = rw (ap_is, bq, cr, dt) refl

capped_more : (a n m : ℕ) → n ≡ capped m → capped (a + n) ≡ capped (a + m)
capped_more a n m is = omega (arith, is)

-- what is counted of a call that settled as many events as its reply says
pub counted_tally : (old new : Counts) (note : Noting) (reply : Reply) (s : State) (call : Call) → new ≡ noted old note reply → one_for_put note ≡ put_calls call → one_for_take note ≡ take_calls call → reply.settled_puts ≡ length (put_events (settled_by s call)) → reply.settled_takes ≡ capped (length (taken_numbers (settled_by s call)))
    → tally_of new ≡ counted s call (tally_of old)
counted_tally old new note reply s call is puts takes settled_puts settled_takes =
    ap tally_of is
    ∙ tallies (capped (old.put_attempts + one_for_put note)) (capped (old.put_successes + reply.settled_puts)) (capped (old.take_attempts + one_for_take note)) (capped (old.take_successes + reply.settled_takes))
    (capped (old.put_attempts + put_calls call)) (capped (old.put_successes + length (put_events (settled_by s call)))) (capped (old.take_attempts + take_calls call)) (capped (old.take_successes + length (taken_numbers (settled_by s call))))
    (ap (λ (n : ℕ). capped (old.put_attempts + n)) puts) (ap (λ (n : ℕ). capped (old.put_successes + n)) settled_puts) (ap (λ (n : ℕ). capped (old.take_attempts + n)) takes) (capped_more old.take_successes reply.settled_takes (length (taken_numbers (settled_by s call))) settled_takes)

-- of one that settled none
pub quiet_tally : (old new : Counts) (note : Noting) (reply : Reply) (done : Bool) (s : State) (call : Call) → new ≡ noted old note reply → reply ≡ quiet done → one_for_put note ≡ put_calls call → one_for_take note ≡ take_calls call → settled_by s call ≡ [] → tally_of new ≡ counted s call (tally_of old)
quiet_tally old new note reply done s call is silent puts takes none =
    counted_tally old new note reply s call is puts takes
    (ap (λ (r : Reply). r.settled_puts) silent ∙ sym (ap (λ (l : List Entry). length (put_events l)) none))
    (ap (λ (r : Reply). r.settled_takes) silent ∙ sym (ap (λ (l : List Entry). capped (length (taken_numbers l))) none))

-- what a call settled, if it flushed

settled_if : (b : Bool) (puts takes : ℕ) (s : State) → puts ≡ length (put_events s.staged) → takes ≡ capped (length (taken_numbers s.staged)) → (cond b puts 0 ≡ length (put_events (cond b s.staged []))) × (cond b takes 0 ≡ capped (length (taken_numbers (cond b s.staged []))))
settled_if true puts takes s puts_are takes_are = (puts_are, takes_are)
settled_if false puts takes s puts_are takes_are = (refl, refl)

put_settled : (s : State) (token : Token) (event : Content) (r : Result Put PutRefused) → settled_by s (PutCall token event r) ≡ cond (put_spills r) s.staged []
put_settled s token event (Ok done) = refl
put_settled s token event (Err e) = refl

take_settled : (s : State) (token : Token) (r : Result Taken TakeRefused) → settled_by s (TakeCall token r) ≡ cond (take_spills r) s.staged []
take_settled s token (Ok taken) = refl
take_settled s token (Err e) = refl

flush_settled : (s : State) (r : Result (Unit {0}) FlushRefused) → settled_by s (FlushCall r) ≡ cond (flush_settles r) s.staged []
flush_settled s (Ok done) = refl
flush_settled s (Err e) = refl

-- it is counted: what was staged where it flushed, and else nothing
pub flushing_tally : (old new : Counts) (note : Noting) (reply : Reply) (b : Bool) (puts takes : ℕ) (s : State) (call : Call) → new ≡ noted old note reply → one_for_put note ≡ put_calls call → one_for_take note ≡ take_calls call → reply.settled_puts ≡ cond b puts 0 → reply.settled_takes ≡ cond b takes 0
    → puts ≡ length (put_events s.staged) → takes ≡ capped (length (taken_numbers s.staged)) → settled_by s call ≡ cond b s.staged [] → tally_of new ≡ counted s call (tally_of old)
flushing_tally old new note reply b puts takes s call is ones one_takes reply_puts reply_takes puts_are takes_are settled =
    let both = settled_if b puts takes s puts_are takes_are in
    counted_tally old new note reply s call is ones one_takes
    (reply_puts ∙ (both.0 ∙ sym (ap (λ (l : List Entry). length (put_events l)) settled)))
    (reply_takes ∙ (both.1 ∙ sym (ap (λ (l : List Entry). capped (length (taken_numbers l))) settled)))

-- a put's counts, with those of its flush
pub put_tally : (old new : Counts) (reply : Reply) (puts takes : ℕ) (s : State) (token : Token) (event : Content) (r : Result Put PutRefused) → new ≡ noted old notes.Put reply → reply.settled_puts ≡ cond (put_spills r) puts 0 → reply.settled_takes ≡ cond (put_spills r) takes 0
    → puts ≡ length (put_events s.staged) → takes ≡ capped (length (taken_numbers s.staged)) → tally_of new ≡ counted s (PutCall token event r) (tally_of old)
put_tally old new reply puts takes s token event r is reply_puts reply_takes puts_are takes_are =
    flushing_tally old new notes.Put reply (put_spills r) puts takes s (PutCall token event r) is refl refl reply_puts reply_takes puts_are takes_are (put_settled s token event r)

-- a take's counts, with those of its flush
pub take_tally : (old new : Counts) (reply : Reply) (puts takes : ℕ) (s : State) (token : Token) (r : Result Taken TakeRefused) → new ≡ noted old notes.Take reply → reply.settled_puts ≡ cond (take_spills r) puts 0 → reply.settled_takes ≡ cond (take_spills r) takes 0
    → puts ≡ length (put_events s.staged) → takes ≡ capped (length (taken_numbers s.staged)) → tally_of new ≡ counted s (TakeCall token r) (tally_of old)
take_tally old new reply puts takes s token r is reply_puts reply_takes puts_are takes_are =
    flushing_tally old new notes.Take reply (take_spills r) puts takes s (TakeCall token r) is refl refl reply_puts reply_takes puts_are takes_are (take_settled s token r)

-- a flush's counts
pub flush_tally : (old new : Counts) (reply : Reply) (puts takes : ℕ) (s : State) (r : Result (Unit {0}) FlushRefused) → new ≡ noted old notes.Flush reply → reply.settled_puts ≡ cond (flush_settles r) puts 0 → reply.settled_takes ≡ cond (flush_settles r) takes 0
    → puts ≡ length (put_events s.staged) → takes ≡ capped (length (taken_numbers s.staged)) → tally_of new ≡ counted s (FlushCall r) (tally_of old)
flush_tally old new reply puts takes s r is reply_puts reply_takes puts_are takes_are =
    flushing_tally old new notes.Flush reply (flush_settles r) puts takes s (FlushCall r) is refl refl reply_puts reply_takes puts_are takes_are (flush_settled s r)

-- a take's faults
pub take_is_fault : (token : Token) (reply : Result Taken TakeRefused) → is_fault (TakeCall token reply) ≡ true → (reply ≡ Err TakeNo.ReadFault) ⊎ (reply ≡ Err TakeNo.DiskFault)
take_is_fault token (Ok taken) is = absurd (cc)
take_is_fault token (Err TakeNo.Stale) is = absurd (cc)
take_is_fault token (Err TakeNo.Broken) is = absurd (cc)
take_is_fault token (Err (TakeNo.Spent counter)) is = absurd (cc)
take_is_fault token (Err (TakeNo.TxnFull count)) is = absurd (cc)
take_is_fault token (Err TakeNo.ReadFault) is = inl refl
take_is_fault token (Err (TakeNo.Damaged kept found)) is = absurd (cc)
take_is_fault token (Err TakeNo.DiskFault) is = inr refl
take_is_fault token (Err TakeNo.NoMemory) is = absurd (cc)
