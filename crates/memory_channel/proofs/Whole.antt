-- A channel in memory stays in memory and whole, whatever its calls answer.
use Rattle.std.proofs.Common.{◌≡◌, ℕ, List, [], ◌∷◌, Option, Some, None, Ok, Err, Bool, true, false, nat_le, cond, length, ◌-◌, ◌^◌, refl, sym, ◌∙◌, subst}
use Rattle.event_core.specs.Content.{Content}
use Rattle.event_core.specs.declared.journal.Entry.{Entry}
use Rattle.event_core.specs.declared.journal.Entry.TheVariants.{Puts, Takes}
use Rattle.channel_face.specs.History.{Moves, Opening, opening}
use Rattle.channel_face.specs.Machine.{State, Call, BeginPut, BeginTake, Put, Take, StagePut, StageTake, Flush, RollbackPut, RollbackTake, Checkpoint, Prune, Reopen, Admits, after, add_put, add_take, settle_if, stage, entry_of, puts_of, takes_of, free, put_refusal, AdmitsBegin, AdmitsPut}
use Rattle.channel_face.specs.declared.replies.Counter.{Counter}
use Rattle.channel_face.specs.declared.replies.Counter.TheVariants.{Txn}
use Rattle.channel_face.specs.declared.replies.Kind.TheVariants.{File as OnFile, Memory as InMemory}
use Rattle.channel_face.specs.declared.replies.BeginRefused.{BeginRefused}
use Rattle.channel_face.specs.declared.replies.BeginRefused.TheVariants as Begin
use Rattle.channel_face.specs.declared.replies.PutRefused.{PutRefused}
use Rattle.channel_face.specs.declared.replies.PutRefused.TheVariants as PutNo
use Rattle.channel_face.specs.declared.replies.TakeRefused.TheVariants as TakeNo
use Rattle.channel_face.specs.declared.replies.FlushRefused.TheVariants as FlushNo
use Rattle.memory_channel.specs.Memory.{IsInMemory, MayRefuseBegin, MayRefusePut}

no_file : (s : State) → IsInMemory s → s.rules.kind ≡ OnFile → (A : Type 0) → A
no_file s memory file A = absurd (differ (sym memory.kind ∙ file))
  where
    differ : InMemory ≡ OnFile → ⊥
    differ is = absurd (cc)

after_puts : (s : State) (number : ℕ) (puts : Option (List Content)) (event : Content) (spilled : Bool) → IsInMemory s → IsInMemory (add_put (settle_if spilled s) number puts event)
after_puts s number None event true memory = record { kind = memory.kind; whole = memory.whole }
after_puts s number None event false memory = memory
after_puts s number (Some events) event true memory = record { kind = memory.kind; whole = memory.whole }
after_puts s number (Some events) event false memory = record { kind = memory.kind; whole = memory.whole }

after_takes : (s : State) (number : ℕ) (takes : Option (List ℕ)) (items : List (ℕ × Content)) (spilled : Bool) → IsInMemory s → IsInMemory (add_take (settle_if spilled s) number takes items)
after_takes s number None items true memory = record { kind = memory.kind; whole = memory.whole }
after_takes s number None items false memory = memory
after_takes s number (Some numbers) [] true memory = record { kind = memory.kind; whole = memory.whole }
after_takes s number (Some numbers) [] false memory = memory
after_takes s number (Some numbers) (item ∷ items) true memory = record { kind = memory.kind; whole = memory.whole }
after_takes s number (Some numbers) (item ∷ items) false memory = record { kind = memory.kind; whole = memory.whole }

after_staging : (s : State) (number : ℕ) (entry : Option Entry) → IsInMemory s → IsInMemory (stage number entry s)
after_staging s number None memory = memory
after_staging s number (Some (Puts [])) memory = record { kind = memory.kind; whole = memory.whole }
after_staging s number (Some (Takes [])) memory = record { kind = memory.kind; whole = memory.whole }
after_staging s number (Some (Puts (e ∷ events))) memory = record { kind = memory.kind; whole = memory.whole }
after_staging s number (Some (Takes (n ∷ numbers))) memory = record { kind = memory.kind; whole = memory.whole }

after_call : (s : State) (call : Call) → Admits true s call → IsInMemory s → IsInMemory (after s call)
after_call s (BeginPut (Ok token)) may memory = record { kind = memory.kind; whole = memory.whole }
after_call s (BeginPut (Err e)) may memory = memory
after_call s (BeginTake (Ok token)) may memory = record { kind = memory.kind; whole = memory.whole }
after_call s (BeginTake (Err e)) may memory = memory
after_call s (Put token event (Ok done)) may memory = after_puts s token.number (puts_of s token) event done.spilled memory
after_call s (Put token event (Err PutNo.Stale)) may memory = memory
after_call s (Put token event (Err PutNo.Broken)) may memory = memory
after_call s (Put token event (Err (PutNo.Spent counter))) may memory = memory
after_call s (Put token event (Err (PutNo.TxnFull count))) may memory = memory
after_call s (Put token event (Err (PutNo.TooLarge size))) may memory = memory
after_call s (Put token event (Err (PutNo.Full count))) may memory = memory
after_call s (Put token event (Err PutNo.DiskFault)) may memory = no_file s memory may.1 (IsInMemory (after s (Put token event (Err PutNo.DiskFault))))
after_call s (Put token event (Err PutNo.NoMemory)) may memory = memory
after_call s (Take token (Ok taken)) may memory = after_takes s token.number (takes_of s token) (free s) taken.spilled memory
after_call s (Take token (Err TakeNo.Stale)) may memory = memory
after_call s (Take token (Err TakeNo.Broken)) may memory = memory
after_call s (Take token (Err (TakeNo.Spent counter))) may memory = memory
after_call s (Take token (Err (TakeNo.TxnFull count))) may memory = memory
after_call s (Take token (Err TakeNo.ReadFault)) may memory = memory
after_call s (Take token (Err (TakeNo.Damaged kept found))) may memory = memory
after_call s (Take token (Err TakeNo.NoMemory)) may memory = memory
after_call s (Take token (Err TakeNo.DiskFault)) may memory = no_file s memory may.1 (IsInMemory (after s (Take token (Err TakeNo.DiskFault))))
after_call s (StagePut token (Ok ticket)) may memory = after_staging s token.number (entry_of token.number s.opened) memory
after_call s (StagePut token (Err cause)) may memory = memory
after_call s (StageTake token (Ok ticket)) may memory = after_staging s token.number (entry_of token.number s.opened) memory
after_call s (StageTake token (Err cause)) may memory = memory
after_call s (Flush (Ok done)) may memory = record { kind = memory.kind; whole = memory.whole }
after_call s (Flush (Err FlushNo.Broken)) may memory = memory
after_call s (Flush (Err FlushNo.DiskFault)) may memory = no_file s memory may.1 (IsInMemory (after s (Flush (Err FlushNo.DiskFault))))
after_call s (Flush (Err (FlushNo.Spent counter))) may memory = memory
after_call s (RollbackPut token true) may memory = record { kind = memory.kind; whole = memory.whole }
after_call s (RollbackPut token false) may memory = memory
after_call s (RollbackTake token true) may memory = record { kind = memory.kind; whole = memory.whole }
after_call s (RollbackTake token false) may memory = memory
after_call s (Checkpoint reply) may memory = no_file s memory may.1 (IsInMemory (after s (Checkpoint reply)))
after_call s (Prune reply) may memory = no_file s memory may.1 (IsInMemory (after s (Prune reply)))
after_call s (Reopen reply) may memory = no_file s memory may.1 (IsInMemory (after s (Reopen reply)))

-- a channel in memory stays so, whatever the call
pub stays : (old : State) (call : Call) (new : State) → Moves true old call new → IsInMemory old → IsInMemory new
stays old call new moves memory = subst IsInMemory (sym moves.state) (after_call old call moves.admitted memory)

-- the refusals that there are

begun_so : (b c : Bool) → cond b (Some (Begin.TooManyOpen 1024)) (cond c (Some (Begin.Spent Txn)) None) ≡ Some Begin.Broken → ⊥
begun_so true c is = absurd (cc)
begun_so false true is = absurd (cc)
begun_so false false is = absurd (cc)

-- in memory, only the allowed causes refuse a begin
pub begin_refused : (s : State) (e : BeginRefused) → IsInMemory s → AdmitsBegin s (Err e) → MayRefuseBegin e
begin_refused s Begin.Broken memory may = begun_so (nat_le 1024 (length s.opened)) (nat_le (2 ^ 64 - 1) s.txn) (rw memory.whole at may)
begin_refused s (Begin.TooManyOpen held) memory may = tt
begin_refused s (Begin.Spent counter) memory may = tt
begin_refused s Begin.NoMemory memory may = tt

put_so : (b : Bool) (n : ℕ) (e : PutRefused) → cond b (Some (PutNo.TxnFull n)) None ≡ Some e → MayRefusePut e
put_so true n e is = let same : PutNo.TxnFull n ≡ e = cc in subst MayRefusePut same tt
put_so false n e is = absurd (cc)

put_says : (s : State) (puts : Option (List Content)) (event : Content) (e : PutRefused) → IsInMemory s → put_refusal s puts event ≡ Some e → MayRefusePut e
put_says s None event e memory is = let same : PutNo.Stale ≡ e = cc in subst MayRefusePut same tt
put_says s (Some events) event e memory is = put_so (nat_le s.rules.limits.txn_capacity (length events)) (length events) e (rw (memory.whole, memory.kind) at is)

put_spent : (s : State) (puts : Option (List Content)) (event : Content) (counter : Counter) → IsInMemory s → AdmitsPut s puts event (Err (PutNo.Spent counter)) → ⊥
put_spent s None event counter memory may = may
put_spent s (Some events) event counter memory may = no_file s memory may.2 ⊥

-- in memory, only the allowed causes refuse a put
pub put_refused : (s : State) (puts : Option (List Content)) (event : Content) (e : PutRefused) → IsInMemory s → AdmitsPut s puts event (Err e) → MayRefusePut e
put_refused s puts event PutNo.Stale memory may = tt
put_refused s puts event PutNo.Broken memory may = put_says s puts event PutNo.Broken memory may
put_refused s puts event (PutNo.Spent counter) memory may = put_spent s puts event counter memory may
put_refused s puts event (PutNo.TxnFull count) memory may = tt
put_refused s puts event (PutNo.TooLarge size) memory may = put_says s puts event (PutNo.TooLarge size) memory may
put_refused s puts event (PutNo.Full count) memory may = put_says s puts event (PutNo.Full count) memory may
put_refused s puts event PutNo.DiskFault memory may = no_file s memory may.1 ⊥
put_refused s puts event PutNo.NoMemory memory may = tt

-- a channel that is opened in memory begins whole
pub begins_whole : (o : Opening) (s : State) → s ≡ opening o → o.rules.kind ≡ InMemory → IsInMemory s
begins_whole o s is kind = rw is (record { kind = kind; whole = refl })
