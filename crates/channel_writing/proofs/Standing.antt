-- Each call adds itself to what a channel on a disk stands for.
use Rattle.std.proofs.Common.{Result, ◌⊎◌, inl, inr, ◌≡◌, ◌<◌, ◌≤◌, ◌+◌, ◌-◌, ◌^◌, ◌++◌, ◌∷◌, [], ℕ, List, length, length-append, nat_le, take, Option, Some, None, Ok, Err, Bool, true, false, ◌||◌, cond, refl, sym, ◌∙◌, ap, subst, arith}
use Rattle.std.proofs.lemmas.Bool.Decides.{nat_tests}
use Rattle.std.proofs.lemmas.List.{append-nil}
use Rattle.std.specs.List.{AllByRecursion}
use Rattle.std.specs.Prelude.{IfErr, OnOk}
use Rattle.flume_host.specs.Causes.{Rose}
use Rattle.flume_host.specs.Folder.{Files}
use Rattle.flume_host.specs.Told.{EachMoment, LeavesOnly, Settle, Tells, Told, WhereTold, clock, done, moment_of, under_way}
use Rattle.flume_host.proofs.Moments.{carried, clock_rises, only_now}
use Rattle.flume_host.proofs.Telling.{back, some_same, tells_more}
use Rattle.event_core.specs.Journal.{IsBase, after_journal}
use Rattle.event_core.specs.declared.journal.Entry.{Entry}
use Rattle.event_core.specs.declared.journal.Entry.TheVariants.{Puts, Takes}
use Rattle.channel_face.specs.Token.{Token}
use Rattle.channel_face.specs.Counters.{Tally, tally, counted}
use Rattle.channel_face.specs.History.{AddsOne, IsRun, Moves, Opening, Step, journal, kept_by, opening, reopen_reply, state_after}
use Rattle.channel_face.specs.Laws.{KeepsFront, ReadsNone}
use Rattle.channel_face.specs.Machine.{State, Call, BeginPut, BeginTake, Put, Take, StagePut, StageTake, Flush, RollbackPut, RollbackTake, Checkpoint, Prune, Reopen, Admits, AdmitsReopen, Kept, Front, Read, Reopened, add_put, add_take, after, base_of, entry_of, free, is_some_of, put_refusal, puts_of, settle, settle_if, stage, take_refusal, takes_of}
use Rattle.channel_face.specs.declared.replies.Kind.TheVariants.{File as OnFile}
use Rattle.channel_face.specs.declared.replies.OpenCause.{OpenCause}
use Rattle.channel_face.specs.declared.replies.OpenCause.TheVariants as OpenNo
use Rattle.channel_face.specs.declared.replies.Counter.TheVariants.{Life}
use Rattle.channel_face.specs.declared.replies.Put.{Put as PutDone}
use Rattle.channel_face.specs.declared.replies.PutRefused.{PutRefused}
use Rattle.channel_face.specs.declared.replies.FlushRefused.{FlushRefused}
use Rattle.channel_face.specs.declared.replies.PutRefused.TheVariants as PutNo
use Rattle.channel_face.specs.declared.replies.TakeRefused.TheVariants as TakeNo
use Rattle.channel_face.specs.declared.replies.FlushRefused.TheVariants as FlushNo
use Rattle.channel_face.specs.declared.replies.CheckRefused.TheVariants as CheckNo
use Rattle.event_core.specs.Content.{Content}
use Rattle.channel_face.proofs.Adding.{run-push, state-push}
use Rattle.channel_face.proofs.Leaving.{journal-push, leaves_as_before}
use Rattle.channel_face.proofs.LawLemmas.{after_none, sound_opening, stands_for}
use Rattle.channel_face.proofs.Tallies.{tally-push}
use Rattle.channel_writing.specs.Folders.{OpensTo}
use Rattle.channel_writing.specs.Waiting.{waiting, waiting_after}
use Rattle.channel_writing.specs.Folders.{IsRefused, Opens, OpensFrom}
use Rattle.channel_writing.proofs.Opening.{as_before_opens}
use Rattle.channel_writing.specs.Stands.{MayFind, Seen, StandsBy, StandsIn, has_fault, is_fault, until}
use Rattle.channel_writing.specs.Touches.{Flushed, Rests, flushes}
use Rattle.channel_writing.specs.Written.{MayRecover, RecoversSettled}

-- the state that calls lead to, said otherwise
pub stands_as : (P Q : State → Type 0) (told : Option Told) (faults : ℕ) (counts : Tally) (waits : ℕ) (start : Opening) (h : List Step) → Q (state_after (opening start) h) → StandsBy P told faults counts waits start h → StandsBy Q told faults counts waits start h
stands_as P Q told faults counts waits start h state stands = record {
  base = stands.base;
  tells = stands.tells;
  run = stands.run;
  state = state;
  tally = stands.tally;
  waiting = stands.waiting;
  moments = stands.moments;
  later = stands.later;
  causes = stands.causes;
  clean = stands.clean;
  images = stands.images;
}

-- the calls up to a moment

late : (a b : ℕ) → a ≤ b → nat_le a b ≡ true
late a b le = grind (arith, nat_tests)

early : (a b : ℕ) → b < a → nat_le a b ≡ false
early a b lt = grind (arith, nat_tests)

until_all : (m : ℕ) (h : List Step) → AllByRecursion (λ (step : Step). step.moment ≤ m) h → until m h ≡ h
until_all m [] all = refl
until_all m (step ∷ h) all = rw (late step.moment m all.0) (ap (λ (l : List Step). step ∷ l) (until_all m h all.1))

until_before : (m : ℕ) (h : List Step) (step : Step) → m < step.moment → until m (h ++ step ∷ []) ≡ until m h
until_before m [] step before = rw (early step.moment m before) refl
until_before m (x ∷ h) step before = ap (λ (l : List Step). cond (nat_le x.moment m) (x ∷ l) l) (until_before m h step before)

no_later : (m m' : ℕ) (h : List Step) → m ≤ m' → AllByRecursion (λ (step : Step). step.moment ≤ m) h → AllByRecursion (λ (step : Step). step.moment ≤ m') h
no_later m m' [] le all = tt
no_later m m' (step ∷ h) le all = (omega (arith, le, all.0), no_later m m' h le all.1)

none_later : (m : ℕ) (h : List Step) (step : Step) → AllByRecursion (λ (s : Step). s.moment ≤ m) h → step.moment ≤ m → AllByRecursion (λ (s : Step). s.moment ≤ m) (h ++ step ∷ [])
none_later m [] step all here = (here, tt)
none_later m (x ∷ h) step all here = (all.0, none_later m h step all.1 here)

-- faults of the disk

rose_more : (before now then : ℕ) → now ≤ then → Rose before now → Rose before then
rose_more before now then le rose = omega (arith, le, rose)

rose_since : (before now then : ℕ) → before ≤ now → Rose now then → Rose before then
rose_since before now then le rose = omega (arith, le, rose)

either : (b c : Bool) → b || c ≡ true → (b ≡ true) ⊎ (c ≡ true)
either true c is = inl refl
either false c is = inr is

neither : (b c : Bool) → b || c ≡ false → (b ≡ false) × (c ≡ false)
neither true c is = absurd (cc)
neither false c is = (refl, is)

fault_in : (step : Step) (h : List Step) → (is_fault step.call ≡ true) ⊎ (has_fault h ≡ true) → has_fault (step ∷ h) ≡ true
fault_in step h (inl here) = rw here refl
fault_in step h (inr there) = from (is_fault step.call) there
  where
    from : (b : Bool) → has_fault h ≡ true → b || has_fault h ≡ true
    from true is = refl
    from false is = is

fault_there : (x step : Step) (h : List Step) → (has_fault h ≡ true) ⊎ (is_fault step.call ≡ true) → (has_fault (x ∷ h) ≡ true) ⊎ (is_fault step.call ≡ true)
fault_there x step h (inl before) = inl (fault_in x h (inr before))
fault_there x step h (inr now) = inr now

fault-push : (h : List Step) (step : Step) → has_fault (h ++ step ∷ []) ≡ true → (has_fault h ≡ true) ⊎ (is_fault step.call ≡ true)
fault-push [] step is = from (either (is_fault step.call) false is)
  where
    from : (is_fault step.call ≡ true) ⊎ (false ≡ true) → (has_fault [] ≡ true) ⊎ (is_fault step.call ≡ true)
    from (inl here) = inr here
    from (inr none) = absurd (cc)
fault-push (x ∷ h) step is = from (either (is_fault x.call) (has_fault (h ++ step ∷ [])) is) (λ later. fault_there x step h (fault-push h step later))
  where
    from : (is_fault x.call ≡ true) ⊎ (has_fault (h ++ step ∷ []) ≡ true) → (has_fault (h ++ step ∷ []) ≡ true → (has_fault (x ∷ h) ≡ true) ⊎ (is_fault step.call ≡ true)) → (has_fault (x ∷ h) ≡ true) ⊎ (is_fault step.call ≡ true)
    from (inl here) go = inl (fault_in x h (inl here))
    from (inr there) go = go there

no_fault-push : (h : List Step) (step : Step) → has_fault (h ++ step ∷ []) ≡ false → (has_fault h ≡ false) × (is_fault step.call ≡ false)
no_fault-push [] step is = (refl, (neither (is_fault step.call) false is).0)
no_fault-push (x ∷ h) step is =
    let none = neither (is_fault x.call) (has_fault (h ++ step ∷ [])) is in
    let rest = no_fault-push h step none.1 in
    (rw (none.0, rest.0) refl, rest.1)

-- over a disk that shows its contents no reopen reads what it keeps

front_kept : (s : State) (kept : Kept) (txn : ℕ) → AdmitsReopen true s (Ok (record { kept = kept; txn = txn })) → KeepsFront (Reopen (Ok (record { kept = kept; txn = txn })))
front_kept s (Front k) txn may = tt
front_kept s (Read base) txn may = absurd (differ may.1.0)
  where
    differ : true ≡ false → ⊥
    differ is = absurd (cc)

keeps_front : (s : State) (call : Call) → Admits true s call → KeepsFront call
keeps_front s (BeginPut reply) may = tt
keeps_front s (BeginTake reply) may = tt
keeps_front s (Put token event reply) may = tt
keeps_front s (Take token reply) may = tt
keeps_front s (StagePut token reply) may = tt
keeps_front s (StageTake token reply) may = tt
keeps_front s (Flush reply) may = tt
keeps_front s (RollbackPut token ended) may = tt
keeps_front s (RollbackTake token ended) may = tt
keeps_front s (Checkpoint reply) may = tt
keeps_front s (Prune reply) may = tt
keeps_front s (Reopen (Ok r)) may = front_kept s r.kept r.txn may.0
keeps_front s (Reopen (Err e)) may = tt

reads_none : (s : State) (h : List Step) → IsRun true s h → ReadsNone h
reads_none s [] run = tt
reads_none s (step ∷ h) run = (keeps_front s step.call run.0, reads_none (after s step.call) h run.1)

-- what is settled is what the journal leaves
settled_is : (start : Opening) (h : List Step) → IsBase start.base → IsRun true (opening start) h → base_of (state_after (opening start) h) ≡ after_journal start.base (journal (opening start) h)
settled_is start h base run = stands_for true (opening start) h (sound_opening start base) run (reads_none (opening start) h run)

finds_settled : (start : Opening) (h : List Step) (s : State) (image : Files) → IsBase start.base → IsRun true (opening start) h → state_after (opening start) h ≡ s → RecoversSettled s image → MayFind start h image
finds_settled start h s image base run is found =
    let settled : base_of s ≡ after_journal start.base (journal (opening start) h) = ap base_of (sym is) ∙ settled_is start h base run in
    let none : journal (opening start) h ++ take 0 (state_after (opening start) h).staged ≡ journal (opening start) h = taken_none (journal (opening start) h) (state_after (opening start) h).staged in
    (base_of s, found.0, found.2, (0, settled ∙ ap (λ (j : List Entry). after_journal start.base j) (sym none)))
  where
    taken_none : (j k : List Entry) → j ++ take 0 k ≡ j
    taken_none j [] = append-nil j
    taken_none j (e ∷ k) = append-nil j

take_every : (j : List Entry) → take (length j) j ≡ j
take_every [] = refl
take_every (e ∷ j) = ap (λ (l : List Entry). e ∷ l) (take_every j)

-- a flush is one more call of the run
finds_staged : (start : Opening) (h : List Step) (s : State) (image : Files) (txn : ℕ) → IsBase start.base → IsRun true (opening start) h → state_after (opening start) h ≡ s → s.broken ≡ false → OpensTo image (after_journal (base_of s) s.staged) txn → MayFind start h image
finds_staged start h s image txn base run is whole found =
    let flush : Step = record { pass = 0; call = Flush (Ok tt); moment = 0 } in
    let here : State = state_after (opening start) h in
    let still : here.broken ≡ false = ap (λ (v : State). v.broken) is ∙ whole in
    let longer : IsRun true (opening start) (h ++ flush ∷ []) = run-push true (opening start) h flush run still in
    let left : base_of (settle here) ≡ after_journal start.base (journal (opening start) (h ++ flush ∷ [])) = ap base_of (sym (state-push (opening start) h flush)) ∙ settled_is start (h ++ flush ∷ []) base longer in
    let entries : journal (opening start) (h ++ flush ∷ []) ≡ journal (opening start) h ++ here.staged = journal-push (opening start) h flush in
    let every : take (length here.staged) here.staged ≡ here.staged = take_every here.staged in
    let same : after_journal (base_of s) s.staged ≡ base_of (settle here) = ap (λ (v : State). after_journal (base_of v) v.staged) (sym is) in
    (after_journal (base_of s) s.staged, txn, found, (length here.staged, same ∙ (left ∙ ap (λ (j : List Entry). after_journal start.base j) (entries ∙ ap (λ (j : List Entry). journal (opening start) h ++ j) (sym every)))))

finds_either : (start : Opening) (h : List Step) (s : State) (image : Files) → IsBase start.base → IsRun true (opening start) h → state_after (opening start) h ≡ s → s.broken ≡ false → MayRecover s image → MayFind start h image
finds_either start h s image base run is whole found = from found.2
  where
    from : OpensTo image (base_of s) found.0 ⊎ OpensTo image (after_journal (base_of s) s.staged) found.0 → MayFind start h image
    from (inl settled) = finds_settled start h s image base run is (found.0, found.1, settled)
    from (inr staged) = finds_staged start h s image found.0 base run is whole staged

-- A call that settles nothing.
record Settles (s : State) (call : Call) : Type 0 where
  pub nothing : kept_by s call ≡ []
  pub more : List Entry
  pub staged : (after s call).staged ≡ s.staged ++ more

finds_still : (start : Opening) (h : List Step) (step : Step) (image : Files) → Settles (state_after (opening start) h) step.call → MayFind start h image → MayFind start (h ++ step ∷ []) image
finds_still start h step image quiet found = (found.0, found.1, found.2, leaves_as_before start h step quiet.more found.0 quiet.nothing quiet.staged found.3)

unless : {A : Type 0} (b : Bool) (x : A) (other : Option A) → cond b (Some x) other ≡ None → b ≡ false
unless true x other is = absurd (cc)
unless false x other is = refl

put_still : (s : State) (puts : Option (List Content)) (event : Content) → put_refusal s puts event ≡ None → s.broken ≡ false
put_still s None event is = absurd (cc)
put_still s (Some events) event is = unless s.broken PutNo.Broken _ is

take_still : (s : State) (takes : Option (List ℕ)) → take_refusal s takes ≡ None → s.broken ≡ false
take_still s None is = absurd (cc)
take_still s (Some numbers) is = unless s.broken TakeNo.Broken _ is

added_put : (b : Bool) (s : State) (number : ℕ) (puts : Option (List Content)) (event : Content) → (add_put (settle_if b s) number puts event).broken ≡ s.broken
added_put true s number None event = refl
added_put true s number (Some events) event = refl
added_put false s number None event = refl
added_put false s number (Some events) event = refl

added_take : (b : Bool) (s : State) (number : ℕ) (takes : Option (List ℕ)) (items : List (ℕ × Content)) → (add_take (settle_if b s) number takes items).broken ≡ s.broken
added_take true s number None items = refl
added_take true s number (Some numbers) [] = refl
added_take true s number (Some numbers) (item ∷ items) = refl
added_take false s number None items = refl
added_take false s number (Some numbers) [] = refl
added_take false s number (Some numbers) (item ∷ items) = refl

differ : {A : Type 0} → true ≡ false → A
differ is = absurd (cc)

none_staged : (s : State) (call : Call) → kept_by s call ≡ [] → (after s call).staged ≡ s.staged → Settles s call
none_staged s call nothing same = record { nothing = nothing; more = []; staged = same ∙ sym (append-nil s.staged) }

stage_adds : (number : ℕ) (entry : Option Entry) (s : State) → (more : List Entry) × ((stage number entry s).staged ≡ s.staged ++ more)
stage_adds number None s = ([], sym (append-nil s.staged))
stage_adds number (Some (Puts [])) s = ([], sym (append-nil s.staged))
stage_adds number (Some (Takes [])) s = ([], sym (append-nil s.staged))
stage_adds number (Some (Puts (e ∷ events))) s = (Puts (e ∷ events) ∷ [], refl)
stage_adds number (Some (Takes (n ∷ numbers))) s = (Takes (n ∷ numbers) ∷ [], refl)

-- a call that leaves a channel broken settles nothing
still_broken : (s : State) (call : Call) → Admits true s call → (after s call).broken ≡ true → Settles s call
still_broken s (BeginPut (Ok token)) may broken = none_staged s (BeginPut (Ok token)) refl refl
still_broken s (BeginPut (Err e)) may broken = none_staged s (BeginPut (Err e)) refl refl
still_broken s (BeginTake (Ok token)) may broken = none_staged s (BeginTake (Ok token)) refl refl
still_broken s (BeginTake (Err e)) may broken = none_staged s (BeginTake (Err e)) refl refl
still_broken s (Put token event (Ok done)) may broken = differ (sym broken ∙ (added_put done.spilled s token.number (puts_of s token) event ∙ put_still s (puts_of s token) event may.0))
still_broken s (Put token event (Err PutNo.Stale)) may broken = none_staged s (Put token event (Err PutNo.Stale)) refl refl
still_broken s (Put token event (Err PutNo.Broken)) may broken = none_staged s (Put token event (Err PutNo.Broken)) refl refl
still_broken s (Put token event (Err (PutNo.Spent counter))) may broken = none_staged s (Put token event (Err (PutNo.Spent counter))) refl refl
still_broken s (Put token event (Err (PutNo.TxnFull count))) may broken = none_staged s (Put token event (Err (PutNo.TxnFull count))) refl refl
still_broken s (Put token event (Err (PutNo.TooLarge size))) may broken = none_staged s (Put token event (Err (PutNo.TooLarge size))) refl refl
still_broken s (Put token event (Err (PutNo.Full count))) may broken = none_staged s (Put token event (Err (PutNo.Full count))) refl refl
still_broken s (Put token event (Err PutNo.DiskFault)) may broken = none_staged s (Put token event (Err PutNo.DiskFault)) refl refl
still_broken s (Put token event (Err PutNo.NoMemory)) may broken = none_staged s (Put token event (Err PutNo.NoMemory)) refl refl
still_broken s (Take token (Ok taken)) may broken = differ (sym broken ∙ (added_take taken.spilled s token.number (takes_of s token) (free s) ∙ take_still s (takes_of s token) may.0))
still_broken s (Take token (Err TakeNo.Stale)) may broken = none_staged s (Take token (Err TakeNo.Stale)) refl refl
still_broken s (Take token (Err TakeNo.Broken)) may broken = none_staged s (Take token (Err TakeNo.Broken)) refl refl
still_broken s (Take token (Err (TakeNo.Spent counter))) may broken = none_staged s (Take token (Err (TakeNo.Spent counter))) refl refl
still_broken s (Take token (Err (TakeNo.TxnFull count))) may broken = none_staged s (Take token (Err (TakeNo.TxnFull count))) refl refl
still_broken s (Take token (Err TakeNo.ReadFault)) may broken = none_staged s (Take token (Err TakeNo.ReadFault)) refl refl
still_broken s (Take token (Err (TakeNo.Damaged kept found))) may broken = none_staged s (Take token (Err (TakeNo.Damaged kept found))) refl refl
still_broken s (Take token (Err TakeNo.DiskFault)) may broken = none_staged s (Take token (Err TakeNo.DiskFault)) refl refl
still_broken s (Take token (Err TakeNo.NoMemory)) may broken = none_staged s (Take token (Err TakeNo.NoMemory)) refl refl
still_broken s (StagePut token (Ok ticket)) may broken = let adds = stage_adds token.number (entry_of token.number s.opened) s in record { nothing = refl; more = adds.0; staged = adds.1 }
still_broken s (StagePut token (Err cause)) may broken = none_staged s (StagePut token (Err cause)) refl refl
still_broken s (StageTake token (Ok ticket)) may broken = let adds = stage_adds token.number (entry_of token.number s.opened) s in record { nothing = refl; more = adds.0; staged = adds.1 }
still_broken s (StageTake token (Err cause)) may broken = none_staged s (StageTake token (Err cause)) refl refl
still_broken s (Flush (Ok done)) may broken = differ (sym broken ∙ may)
still_broken s (Flush (Err FlushNo.Broken)) may broken = none_staged s (Flush (Err FlushNo.Broken)) refl refl
still_broken s (Flush (Err FlushNo.DiskFault)) may broken = none_staged s (Flush (Err FlushNo.DiskFault)) refl refl
still_broken s (Flush (Err (FlushNo.Spent counter))) may broken = absurd may
still_broken s (RollbackPut token true) may broken = none_staged s (RollbackPut token true) refl refl
still_broken s (RollbackPut token false) may broken = none_staged s (RollbackPut token false) refl refl
still_broken s (RollbackTake token true) may broken = none_staged s (RollbackTake token true) refl refl
still_broken s (RollbackTake token false) may broken = none_staged s (RollbackTake token false) refl refl
still_broken s (Checkpoint (Ok done)) may broken = differ (sym broken ∙ may.0)
still_broken s (Checkpoint (Err CheckNo.Broken)) may broken = none_staged s (Checkpoint (Err CheckNo.Broken)) refl refl
still_broken s (Checkpoint (Err (CheckNo.Spent counter))) may broken = none_staged s (Checkpoint (Err (CheckNo.Spent counter))) refl refl
still_broken s (Checkpoint (Err CheckNo.DiskFault)) may broken = none_staged s (Checkpoint (Err CheckNo.DiskFault)) refl refl
still_broken s (Checkpoint (Err CheckNo.CheckFault)) may broken = differ (sym broken ∙ may.0)
still_broken s (Prune reply) may broken = none_staged s (Prune reply) refl refl
still_broken s (Reopen (Ok r)) may broken = differ (sym broken)
still_broken s (Reopen (Err e)) may broken = none_staged s (Reopen (Err e)) refl refl

-- what a call did to what the disk shows

-- the channel was not broken, and a crash at any moment leaves what was settled, or that with what was staged
pub record Spans (s : State) (t u : Told) : Type 0 where
  pub whole : s.broken ≡ false
  pub images : LeavesOnly t u (MayRecover s)

abbrev pub Touched : Option Told → Option Told → State → Type 0
Touched told told' s = (told' ≡ told) ⊎ Tells told told' (λ t u. Spans s t u)

told_same : (told told' : Option Told) (s : State) → Touched told told' s → is_some_of told' ≡ is_some_of told
told_same told told' s (inl same) = ap is_some_of same
told_same None None s (inr tells) = refl
told_same None (Some u) s (inr tells) = absurd tells
told_same (Some t) None s (inr tells) = absurd tells
told_same (Some t) (Some u) s (inr tells) = refl

moment_rises : (told told' : Option Told) (s : State) → Touched told told' s → moment_of told ≤ moment_of told'
moment_rises told told' s (inl same) = omega (arith, ap moment_of same)
moment_rises None None s (inr tells) = omega arith
moment_rises None (Some u) s (inr tells) = absurd tells
moment_rises (Some t) None s (inr tells) = absurd tells
moment_rises (Some t) (Some u) s (inr tells) = clock_rises t u (MayRecover s) tells.images

told_before : (told told' : Option Told) (s : State) → Touched told told' s → (u : Told) → told' ≡ Some u → (t : Told) × (told ≡ Some t) × ((u ≡ t) ⊎ Spans s t u)
told_before told told' s (inl same) u is = (u, sym same ∙ is, inl refl)
told_before told told' s (inr tells) u is = let old = back told told' (λ t v. Spans s t v) tells u is in (old.0, old.1, inr old.2)

run_of : (b : Bool) (c : Bool) (s : State) (h : List Step) → b ≡ c → IsRun c s h → IsRun b s h
run_of b c s h is run = subst (λ (v : Bool). IsRun v s h) (sym is) run

-- where the disk shows its contents, its run is exact
exact_run : (told : Option Told) (t : Told) (s : State) (h : List Step) → told ≡ Some t → IsRun (is_some_of told) s h → IsRun true s h
exact_run told t s h is run = run_of true (is_some_of told) s h (sym (ap is_some_of is)) run

-- A channel that stood for some calls, and one more call, as far as images need them.
record Adds (t : Told) (start : Opening) (h : List Step) (step : Step) (old new : State) : Type 0 where
  pub base : IsBase start.base
  pub run : IsRun true (opening start) h
  pub state : state_after (opening start) h ≡ old
  pub moments : AllByRecursion (λ (s : Step). s.moment ≤ clock t) h
  pub images : EachMoment start.from (λ m image. MayFind start (until m h) image) t
  pub may : Admits true old step.call
  pub new_is : new ≡ after old step.call

longer_run : (t : Told) (start : Opening) (h : List Step) (step : Step) (old new : State) → Adds t start h step old new → IsRun true (opening start) (h ++ step ∷ [])
longer_run t start h step old new a = run-push true (opening start) h step a.run (subst (λ (s : State). Admits true s step.call) (sym a.state) a.may)

longer_state : (t : Told) (start : Opening) (h : List Step) (step : Step) (old new : State) → Adds t start h step old new → state_after (opening start) (h ++ step ∷ []) ≡ new
longer_state t start h step old new a = state-push (opening start) h step ∙ (ap (λ (s : State). after s step.call) a.state ∙ sym a.new_is)

-- what a crash leaves after the call
finds_now : (t : Told) (start : Opening) (h : List Step) (step : Step) (old new : State) → Adds t start h step old new → (image : Files) → (new.broken ≡ false → RecoversSettled new image) → (new.broken ≡ true → MayFind start h image) → MayFind start (h ++ step ∷ []) image
finds_now t start h step old new a image whole broken = from new.broken refl
  where
    from : (b : Bool) → new.broken ≡ b → MayFind start (h ++ step ∷ []) image
    from false is = finds_settled start (h ++ step ∷ []) new image a.base (longer_run t start h step old new a) (longer_state t start h step old new a) (whole is)
    from true is =
        let quiet : Settles old step.call = still_broken old step.call a.may (sym (ap (λ (s : State). s.broken) a.new_is) ∙ is) in
        finds_still start h step image (subst (λ (s : State). Settles s step.call) (sym a.state) quiet) (broken is)

images_untouched : (t : Told) (start : Opening) (h : List Step) (step : Step) (old new : State) → Adds t start h step old new → step.moment ≡ clock t → Rests (Some t) new
    → EachMoment start.from (λ m image. MayFind start (until m (h ++ step ∷ [])) image) t
images_untouched t start h step old new a at rests m image since left = from (some_time m (clock t))
  where
    some_time : (m n : ℕ) → (m < n) ⊎ (n ≤ m)
    some_time m n = grind arith

    before : MayFind start (until m h) image
    before = a.images m image since left

    from : (m < clock t) ⊎ (clock t ≤ m) → MayFind start (until m (h ++ step ∷ [])) image
    from (inl past) = subst (λ (l : List Step). MayFind start l image) (sym (until_before m h step (rw at past))) before
    from (inr now) =
        let here : MayFind start h image = subst (λ (l : List Step). MayFind start l image) (until_all m h (no_later (clock t) m h now a.moments)) before in
        let all : until m (h ++ step ∷ []) ≡ h ++ step ∷ [] = until_all m (h ++ step ∷ []) (none_later m h step (no_later (clock t) m h now a.moments) (rw at now)) in
        subst (λ (l : List Step). MayFind start l image) (sym all) (finds_now t start h step old new a image (λ whole. rests whole t refl image (only_now t m image now left)) (λ broken. here))

-- a run at each moment of which a crash leaves what was settled, or that with what was staged
images_run : (t u : Told) (start : Opening) (h : List Step) (step : Step) (old new : State) → Adds t start h step old new → LeavesOnly t u (MayRecover old) → ((image : Files) → MayRecover old image → MayFind start h image) → step.moment ≡ clock u → Rests (Some u) new
    → EachMoment start.from (λ m image. MayFind start (until m (h ++ step ∷ [])) image) u
images_run t u start h step old new a run finds at rests =
    carried start.from (λ m image. MayFind start (until m h) image) (λ m image. MayFind start (until m (h ++ step ∷ [])) image) t u (MayRecover old) a.images run
    (λ m image past found. subst (λ (l : List Step). MayFind start l image) (sym (until_before m h step (rw at (omega (arith, past, rises))))) found)
    (λ m image since before found. subst (λ (l : List Step). MayFind start l image) (sym (until_before m h step (rw at before) ∙ until_all m h (no_later (clock t) m h since a.moments))) (finds image found))
    (λ m image now left found.
    let all : until m (h ++ step ∷ []) ≡ h ++ step ∷ [] = until_all m (h ++ step ∷ []) (none_later m h step (no_later (clock t) m h (omega (arith, now, rises)) a.moments) (rw at now)) in
    subst (λ (l : List Step). MayFind start l image) (sym all) (finds_now t start h step old new a image (λ whole. rests whole u refl image left) (λ broken. finds image found)))
  where
    rises : clock t ≤ clock u
    rises = clock_rises t u (MayRecover old) run

-- the bytes that wait after one more call
waiting-push : (s : State) (n : ℕ) (h : List Step) (step : Step) → waiting s n (h ++ step ∷ []) ≡ waiting_after (state_after s h) step.call (waiting s n h)
waiting-push s n [] step = refl
waiting-push s n (x ∷ h) step = waiting-push (after s x.call) (waiting_after s x.call n) h step

-- a call of the machine adds itself, as its images may be
adds_with : (told told' : Option Told) (f f' : ℕ) (old : Seen) (call : Call) (new : Seen) → Moves (is_some_of told) old.state call new.state → new.tally ≡ counted old.state call old.tally → new.waiting ≡ waiting_after old.state call old.waiting → f ≤ f' → (is_fault call ≡ true → Rose f f') → (is_fault call ≡ false → f' ≡ f)
    → is_some_of told' ≡ is_some_of told → moment_of told ≤ moment_of told'
    → ((start : Opening) (h : List Step) (step : Step) (t u : Told) → told ≡ Some t → told' ≡ Some u → step.moment ≡ clock u → Adds t start h step old.state new.state → step.call ≡ call → EachMoment start.from (λ m image. MayFind start (until m (h ++ step ∷ [])) image) u)
    → ((u : Told) → told' ≡ Some u → (t : Told) × (told ≡ Some t))
    → AddsOne (StandsIn told f old) (StandsIn told' f' new) call (moment_of told')
adds_with told told' f f' old call new moves count waits up cause still tells rises images before start h pass stands = record {
  base = stands.base;
  tells = stands.tells ∙ sym tells;
  run = run-push (is_some_of told') (opening start) h step (run_of (is_some_of told') (is_some_of told) (opening start) h tells stands.run) (subst (λ (b : Bool). Admits b (state_after (opening start) h) call) (sym tells) may);
  state = state-push (opening start) h step ∙ (ap (λ (s : State). after s call) stands.state ∙ sym moves.state);
  tally = tally-push (opening start) h step ∙ (same_count ∙ sym count);
  waiting = waiting-push (opening start) 0 h step ∙ (same_waiting ∙ sym waits);
  moments = none_later (moment_of told') h step (no_later (moment_of told) (moment_of told') h rises stands.moments) (omega arith);
  later = omega (arith, stands.later, up);
  causes = λ is. by (fault-push h step is);
  clean = λ is. let none = no_fault-push h step is in still none.1 ∙ stands.clean none.0;
  images = λ u is. let was = before u is in images start h step was.0 u was.1 is (ap moment_of is) (adds u was.0 was.1) refl;
}
  where
    step : Step
    step = record { pass = pass; call = call; moment = moment_of told' }

    may : Admits (is_some_of told) (state_after (opening start) h) call
    may = subst (λ (s : State). Admits (is_some_of told) s call) (sym stands.state) moves.admitted

    same_waiting : waiting_after (state_after (opening start) h) call (waiting (opening start) 0 h) ≡ waiting_after old.state call old.waiting
    same_waiting = ap (λ (s : State). waiting_after s call (waiting (opening start) 0 h)) stands.state ∙ ap (λ (n : ℕ). waiting_after old.state call n) stands.waiting

    same_count : counted (state_after (opening start) h) call (tally (opening start) h) ≡ counted old.state call old.tally
    same_count = ap (λ (s : State). counted s call (tally (opening start) h)) stands.state ∙ ap (λ (t : Tally). counted old.state call t) stands.tally

    by : (has_fault h ≡ true) ⊎ (is_fault call ≡ true) → Rose start.faults f'
    by (inl before) = rose_more start.faults f f' up (stands.causes before)
    by (inr now) = rose_since start.faults f f' stands.later (cause now)

    adds : (u t : Told) → told ≡ Some t → Adds t start h step old.state new.state
    adds u t was = record {
      base = stands.base;
      run = exact_run told t (opening start) h was stands.run;
      state = stands.state;
      moments = no_later (moment_of told) (clock t) h (omega (arith, ap moment_of was)) stands.moments;
      images = stands.images t was;
      may = subst (λ (b : Bool). Admits b old.state call) (ap is_some_of was) moves.admitted;
      new_is = moves.state;
    }

-- a call of the machine adds itself, also over a disk that does not show its contents
pub adds_loosely : (told told' : Option Told) (f f' : ℕ) (old : Seen) (call : Call) (new : Seen) → Moves (is_some_of told) old.state call new.state → new.tally ≡ counted old.state call old.tally → new.waiting ≡ waiting_after old.state call old.waiting → f ≤ f' → (is_fault call ≡ true → Rose f f') → (is_fault call ≡ false → f' ≡ f) → Touched told told' old.state → Rests told' new.state
    → AddsOne (StandsIn told f old) (StandsIn told' f' new) call (moment_of told')
adds_loosely told told' f f' old call new moves count waits up cause still touched rests =
    adds_with told told' f f' old call new moves count waits up cause still
    (told_same told told' old.state touched) (moment_rises told told' old.state touched) images (λ u is. let was = told_before told told' old.state touched u is in (was.0, was.1))
  where
    images : (start : Opening) (h : List Step) (step : Step) (t u : Told) → told ≡ Some t → told' ≡ Some u → step.moment ≡ clock u → Adds t start h step old.state new.state → step.call ≡ call → EachMoment start.from (λ m image. MayFind start (until m (h ++ step ∷ [])) image) u
    images start h step t u was is at adds same_call = from (told_before told told' old.state touched u is)
      where
        rest : Rests (Some u) new.state
        rest = subst (λ (v : Option Told). Rests v new.state) is rests

        from : (b : Told) × (told ≡ Some b) × ((u ≡ b) ⊎ Spans old.state b u) → EachMoment start.from (λ m image. MayFind start (until m (h ++ step ∷ [])) image) u
        from (b, old_is, inl same) =
            let whole : u ≡ t = same ∙ some_same b t (sym old_is ∙ was) in
            subst (λ (v : Told). EachMoment start.from (λ m image. MayFind start (until m (h ++ step ∷ [])) image) v) (sym whole)
            (images_untouched t start h step old.state new.state adds (at ∙ ap clock whole) (subst (λ (v : Told). Rests (Some v) new.state) whole rest))
        from (b, old_is, inr flushed) =
            let here : Spans old.state t u = subst (λ (v : Told). Spans old.state v u) (some_same b t (sym old_is ∙ was)) flushed in
            images_run t u start h step old.state new.state adds here.images (λ image found. finds_either start h old.state image adds.base adds.run adds.state here.whole found) at rest

-- a reopen

-- one that keeps all that is staged is a call more of the run
finds_kept : (start : Opening) (h : List Step) (s : State) (image : Files) (txn : ℕ) → IsBase start.base → IsRun true (opening start) h → state_after (opening start) h ≡ s → s.life < 2 ^ 64 - 1 → s.rules.kind ≡ OnFile → OpensTo image (after_journal (base_of s) s.staged) txn → MayFind start h image
finds_kept start h s image txn base run is life kind found =
    let here : State = state_after (opening start) h in
    let k : ℕ = length here.staged in
    let reopen : Step = record { pass = 0; call = Reopen (Ok (record { kept = Front k; txn = 1 })); moment = 0 } in
    let lives : here.life < 2 ^ 64 - 1 = omega (arith, life, ap (λ (v : State). v.life) is) in
    let longer : IsRun true (opening start) (h ++ reopen ∷ []) = run-push true (opening start) h reopen run ((lives, omega arith), ap (λ (v : State). v.rules.kind) is ∙ kind) in
    let left : after_journal (base_of here) (take k here.staged) ≡ after_journal start.base (journal (opening start) (h ++ reopen ∷ [])) = ap base_of (sym (state-push (opening start) h reopen)) ∙ settled_is start (h ++ reopen ∷ []) base longer in
    let entries : journal (opening start) (h ++ reopen ∷ []) ≡ journal (opening start) h ++ take k here.staged = journal-push (opening start) h reopen in
    let same : after_journal (base_of s) s.staged ≡ after_journal (base_of here) (take k here.staged) = ap (λ (v : State). after_journal (base_of v) v.staged) (sym is) ∙ ap (λ (j : List Entry). after_journal (base_of here) j) (sym (take_every here.staged)) in
    (after_journal (base_of s) s.staged, txn, found, (k, same ∙ (left ∙ ap (λ (j : List Entry). after_journal start.base j) entries)))

finds_reopening : (start : Opening) (h : List Step) (s : State) (image : Files) → IsBase start.base → IsRun true (opening start) h → state_after (opening start) h ≡ s → s.life < 2 ^ 64 - 1 → s.rules.kind ≡ OnFile → MayRecover s image → MayFind start h image
finds_reopening start h s image base run is life kind (n, low, inl found) = finds_settled start h s image base run is (n, low, found)
finds_reopening start h s image base run is life kind (n, low, inr found) = finds_kept start h s image n base run is life kind found

-- it left the disk alone, or a crash in it left what was settled, or that with what was staged
abbrev Reopens : Option Told → Option Told → State → Type 0
Reopens told told' s = (told' ≡ told) ⊎ ((s.life < 2 ^ 64 - 1) × Tells told told' (λ t u. LeavesOnly t u (MayRecover s)))

reopen_tells : (told told' : Option Told) (s : State) → Reopens told told' s → (is_some_of told' ≡ is_some_of told) × (moment_of told ≤ moment_of told')
reopen_tells told told' s (inl same) = (ap is_some_of same, omega (arith, ap moment_of same))
reopen_tells None None s (inr (life, tells)) = (refl, omega arith)
reopen_tells None (Some u) s (inr (life, tells)) = absurd tells
reopen_tells (Some t) None s (inr (life, tells)) = absurd tells
reopen_tells (Some t) (Some u) s (inr (life, tells)) = (refl, clock_rises t u (MayRecover s) tells)

reopen_before : (told told' : Option Told) (s : State) → Reopens told told' s → (u : Told) → told' ≡ Some u → (t : Told) × (told ≡ Some t) × ((u ≡ t) ⊎ ((s.life < 2 ^ 64 - 1) × LeavesOnly t u (MayRecover s)))
reopen_before told told' s (inl same) u is = (u, sym same ∙ is, inl refl)
reopen_before told told' s (inr (life, tells)) u is = let old = back told told' (λ t v. LeavesOnly t v (MayRecover s)) tells u is in (old.0, old.1, inr (life, old.2))

-- an opening anew adds itself to the calls that the channel stands for
pub reopens_over : (told told' : Option Told) (f f' : ℕ) (old : Seen) (reply : Result Reopened OpenCause) (new : Seen) → Moves (is_some_of told) old.state (Reopen reply) new.state → new.tally ≡ counted old.state (Reopen reply) old.tally → new.waiting ≡ waiting_after old.state (Reopen reply) old.waiting → f ≤ f' → (is_fault (Reopen reply) ≡ true → Rose f f') → (is_fault (Reopen reply) ≡ false → f' ≡ f)
    → Reopens told told' old.state → Rests told' new.state → AddsOne (StandsIn told f old) (StandsIn told' f' new) (Reopen reply) (moment_of told')
reopens_over told told' f f' old reply new moves count waits up cause still reopens rests =
    let tells = reopen_tells told told' old.state reopens in
    adds_with told told' f f' old (Reopen reply) new moves count waits up cause still tells.0 tells.1 images (λ u is. let was = reopen_before told told' old.state reopens u is in (was.0, was.1))
  where
    images : (start : Opening) (h : List Step) (step : Step) (t u : Told) → told ≡ Some t → told' ≡ Some u → step.moment ≡ clock u → Adds t start h step old.state new.state → step.call ≡ Reopen reply → EachMoment start.from (λ m image. MayFind start (until m (h ++ step ∷ [])) image) u
    images start h step t u was is at adds same_call = from (reopen_before told told' old.state reopens u is)
      where
        rest : Rests (Some u) new.state
        rest = subst (λ (v : Option Told). Rests v new.state) is rests

        from : (b : Told) × (told ≡ Some b) × ((u ≡ b) ⊎ ((old.state.life < 2 ^ 64 - 1) × LeavesOnly b u (MayRecover old.state))) → EachMoment start.from (λ m image. MayFind start (until m (h ++ step ∷ [])) image) u
        from (b, old_is, inl same) =
            let whole : u ≡ t = same ∙ some_same b t (sym old_is ∙ was) in
            subst (λ (v : Told). EachMoment start.from (λ m image. MayFind start (until m (h ++ step ∷ [])) image) v) (sym whole)
            (images_untouched t start h step old.state new.state adds (at ∙ ap clock whole) (subst (λ (v : Told). Rests (Some v) new.state) whole rest))
        from (b, old_is, inr (life, run)) =
            let here : LeavesOnly t u (MayRecover old.state) = subst (λ (v : Told). LeavesOnly v u (MayRecover old.state)) (some_same b t (sym old_is ∙ was)) run in
            images_run t u start h step old.state new.state adds here (λ image found. finds_reopening start h old.state image adds.base adds.run adds.state life moves.admitted.1 found) at rest

-- the same as a method has it: what was before is named by its value

-- a call left the disk alone, or flushed a channel that was not broken
pub touched_by : (told told' : Option Told) (s : State) (call : Call) → (flushes call ≡ false → told' ≡ told) → (flushes call ≡ true → Tells told told' (λ t u. Flushed s t u)) → Touched told told' s
touched_by told told' s call quiet flushed = from (flushes call) refl
  where
    from : (b : Bool) → flushes call ≡ b → Touched told told' s
    from true is = inr (tells_more told told' (λ t u. Flushed s t u) (λ t u. Spans s t u) (λ t u old new did. record { whole = did.whole; images = did.images }) (flushed is))
    from false is = inl (quiet is)

-- which of the replies are faults

-- only a fault of the disk is a fault of a put
pub put_fault : (token : Token) (event : Content) (reply : Result PutDone PutRefused) → is_fault (Put token event reply) ≡ true → reply ≡ Err PutNo.DiskFault
put_fault token event (Ok done) is = absurd (cc)
put_fault token event (Err PutNo.Stale) is = absurd (cc)
put_fault token event (Err PutNo.Broken) is = absurd (cc)
put_fault token event (Err (PutNo.Spent counter)) is = absurd (cc)
put_fault token event (Err (PutNo.TxnFull count)) is = absurd (cc)
put_fault token event (Err (PutNo.TooLarge size)) is = absurd (cc)
put_fault token event (Err (PutNo.Full count)) is = absurd (cc)
put_fault token event (Err PutNo.DiskFault) is = refl
put_fault token event (Err PutNo.NoMemory) is = absurd (cc)

-- only a fault of the disk is a fault of a flush
pub flush_fault : (reply : Result (Unit {0}) FlushRefused) → is_fault (Flush reply) ≡ true → reply ≡ Err FlushNo.DiskFault
flush_fault (Ok done) is = absurd (cc)
flush_fault (Err FlushNo.Broken) is = absurd (cc)
flush_fault (Err FlushNo.DiskFault) is = refl
flush_fault (Err (FlushNo.Spent counter)) is = absurd (cc)

-- A channel that was just opened stands for no calls: whatever a crash left since recovers to its base.
pub stands_first : (told : Option Told) (faults : ℕ) (c : Seen) (start : Opening) → IsBase start.base → start.tells ≡ is_some_of told → c.state ≡ opening start → c.tally ≡ tally (opening start) [] → c.waiting ≡ 0 → faults ≡ start.faults
    → WhereTold told (EachMoment start.from (λ m image. (txn : ℕ) × OpensTo image start.base txn)) → StandsIn told faults c start []
stands_first told faults c start base same state count none well images = record {
  base = base;
  tells = same;
  run = tt;
  state = sym state;
  tally = sym count;
  waiting = sym none;
  moments = tt;
  later = omega (arith, well);
  causes = λ is. absurd (cc);
  clean = λ _. well;
  images = λ t is m image since left. let found = images t is m image since left in (start.base, found.0, found.1, (0, sym (after_none start.base)));
}

-- only a fault of the disk is a fault of an opening anew
pub reopen_fault : (reply : Result (Unit {0}) OpenCause) (kept : Reopened) → is_fault (Reopen (reopen_reply reply kept)) ≡ true → reply ≡ Err OpenNo.DiskFault
reopen_fault (Ok done) kept is = absurd (cc)
reopen_fault (Err OpenNo.DiskFault) kept is = refl
reopen_fault (Err (OpenNo.BadCheck file at)) kept is = absurd (cc)
reopen_fault (Err (OpenNo.BadLog file at)) kept is = absurd (cc)
reopen_fault (Err (OpenNo.OverCapacity count)) kept is = absurd (cc)
reopen_fault (Err (OpenNo.Spent counter)) kept is = absurd (cc)
reopen_fault (Err OpenNo.NoMemory) kept is = absurd (cc)

-- What a reopening of the channel did.
pub record DidReopen (told told' : Option Told) (f f' : ℕ) (old : Seen) (reply : Result Reopened OpenCause) (new : Seen) : Type 0 where
  pub moves : Moves (is_some_of told) old.state (Reopen reply) new.state
  pub tally : new.tally ≡ counted old.state (Reopen reply) old.tally
  pub waits : new.waiting ≡ waiting_after old.state (Reopen reply) old.waiting
  pub up : f ≤ f'
  pub cause : is_fault (Reopen reply) ≡ true → Rose f f'
  pub still : is_fault (Reopen reply) ≡ false → f' ≡ f
  pub spent : 2 ^ 64 - 1 ≤ old.state.life → told' ≡ told
  pub images : Tells told told' (λ t u. LeavesOnly t u (MayRecover old.state))
  pub rests : Rests told' new.state

reopens_of : (told told' : Option Told) (s : State) → (2 ^ 64 - 1 ≤ s.life → told' ≡ told) → Tells told told' (λ t u. LeavesOnly t u (MayRecover s)) → Reopens told told' s
reopens_of told told' s spent images = from (at_end s.life)
  where
    at_end : (n : ℕ) → (n < 2 ^ 64 - 1) ⊎ (2 ^ 64 - 1 ≤ n)
    at_end n = grind arith

    from : (s.life < 2 ^ 64 - 1) ⊎ (2 ^ 64 - 1 ≤ s.life) → Reopens told told' s
    from (inl life) = inr (life, images)
    from (inr end) = inl (spent end)

-- an opening anew adds itself, where what was before is named by its value
pub adds_reopen : (told told' told0 : Option Told) (f f' f0 : ℕ) (old new old0 : Seen) (reply : Result Reopened OpenCause) → told ≡ told0 → f ≡ f0 → old ≡ old0 → DidReopen told told' f f' old reply new
    → AddsOne (StandsIn told0 f0 old0) (StandsIn told' f' new) (Reopen reply) (moment_of told')
adds_reopen told told' told0 f f' f0 old new old0 reply told_is f_is old_is did =
    rw (← told_is, ← f_is, ← old_is) (reopens_over told told' f f' old reply new did.moves did.tally did.waits did.up did.cause did.still (reopens_of told told' old.state did.spent did.images) did.rests)

-- A channel that was opened: since then a crash leaves what recovers to what it has.
pub stands_opened : (told told' : Option Told) (faults : ℕ) (c : Seen) (start : Opening) (capacity : ℕ) → IsBase start.base → start.tells ≡ is_some_of told' → c.state ≡ opening start → c.tally ≡ tally (opening start) [] → c.waiting ≡ 0 → faults ≡ start.faults → start.from ≡ moment_of told + 1
    → WhereTold told (λ t. Opens t.reads capacity start.base start.txn) → Tells told told' OpensFrom → StandsIn told' faults c start []
stands_opened told told' faults c start capacity base same state count none well from opens tells = stands_first told' faults c start base same state count none well images
  where
    images : (u : Told) → told' ≡ Some u → EachMoment start.from (λ m image. (txn : ℕ) × OpensTo image start.base txn) u
    images u is m image since left =
        let b = back told told' OpensFrom tells u is in
        let first : clock (done Settle b.0) ≤ m = omega (arith, since, from, ap moment_of b.1, length-append b.0.past (under_way Settle b.0.now ∷ [])) in
        (start.txn, as_before_opens b.0.reads image start.base start.txn (b.2.each m image first left) ((opens b.0 b.1).recovers, (opens b.0 b.1).fits))

-- a reopening that was not refused for a fault counted none
pub still_by : (r : Result (Unit {0}) OpenCause) (kept : Reopened) (X : Type 0) (told told' : Option Told) (f f' capacity : ℕ) → OnOk r (f' ≡ f) → (X → f' ≡ f) → IfErr r (λ e. ((e ≡ OpenNo.Spent Life) × X) ⊎ IsRefused told told' f f' capacity e)
    → is_fault (Reopen (reopen_reply r kept)) ≡ false → f' ≡ f
still_by (Ok done) kept X told told' f f' capacity well same refused none = well
still_by (Err e) kept X told told' f f' capacity well same (inl spent) none = same spent.1
still_by (Err e) kept X told told' f f' capacity well same (inr refused) none = refused.well (λ is. differ (sym (ap (λ (v : OpenCause). is_fault (Reopen (Err v))) is) ∙ none))
