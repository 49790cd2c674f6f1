-- The machine refuses no call because no more calls are counted.
use Rattle.std.proofs.Common.{◌≡◌, ◌+◌, ◌-◌, ◌^◌, ℕ, List, length, nat_le, nat_lt, Option, Some, None, Result, Ok, Err, Bool, true, false, cond, refl}
use Rattle.event_core.specs.Content.{Content}
use Rattle.event_core.specs.Journal.{put_events}
use Rattle.channel_face.specs.Token.{Token}
use Rattle.channel_face.specs.Machine.{State, next_number, or_else, room_refusal, begin_refusal, stage_put_refusal, stage_take_refusal, AdmitsBegin, AdmitsPut, AdmitsTake, AdmitsStage, AdmitsFlush}
use Rattle.channel_face.specs.declared.replies.Kind.{Kind}
use Rattle.channel_face.specs.declared.replies.Kind.TheVariants.{File as OnFile, Memory as InMemory}
use Rattle.channel_face.specs.declared.replies.Counter.TheVariants.{Txn, Number, File, Check, Life, Calls}
use Rattle.channel_face.specs.declared.replies.Ticket.{Ticket}
use Rattle.channel_face.specs.declared.replies.Put.{Put as PutDone}
use Rattle.channel_face.specs.declared.replies.Taken.{Taken}
use Rattle.channel_face.specs.declared.replies.BeginRefused.{BeginRefused}
use Rattle.channel_face.specs.declared.replies.BeginRefused.TheVariants as Begin
use Rattle.channel_face.specs.declared.replies.PutRefused.{PutRefused}
use Rattle.channel_face.specs.declared.replies.PutRefused.TheVariants as PutNo
use Rattle.channel_face.specs.declared.replies.TakeRefused.{TakeRefused}
use Rattle.channel_face.specs.declared.replies.TakeRefused.TheVariants as TakeNo
use Rattle.channel_face.specs.declared.replies.StageCause.{StageCause}
use Rattle.channel_face.specs.declared.replies.StageCause.TheVariants as StageNo
use Rattle.channel_face.specs.declared.replies.FlushRefused.{FlushRefused}
use Rattle.channel_face.specs.declared.replies.FlushRefused.TheVariants as FlushNo
use Rattle.channel_face.specs.Faces.{is_spent_begin, is_spent_put, is_spent_take, is_spent_stage, is_spent_flush}

no_begin : (s : State) → begin_refusal s ≡ Some (Begin.Spent Calls) → ⊥
no_begin s is = by_tests s.broken (nat_le 1024 (length s.opened)) (nat_le (2 ^ 64 - 1) s.txn) is
  where
    by_tests : (a b c : Bool) → cond a (Some Begin.Broken) (cond b (Some (Begin.TooManyOpen 1024)) (cond c (Some (Begin.Spent Txn)) None)) ≡ Some (Begin.Spent Calls) → ⊥
    by_tests true b c h = cc
    by_tests false true c h = cc
    by_tests false false true h = cc
    by_tests false false false h = cc

-- the machine refuses no begin because no more calls are counted
pub begin_spares : (s : State) (reply : Result Token BeginRefused) → AdmitsBegin s reply → is_spent_begin reply ≡ false
begin_spares s (Ok token) may = refl
begin_spares s (Err Begin.Broken) may = refl
begin_spares s (Err (Begin.TooManyOpen n)) may = refl
begin_spares s (Err Begin.NoMemory) may = refl
begin_spares s (Err (Begin.Spent Txn)) may = refl
begin_spares s (Err (Begin.Spent Number)) may = refl
begin_spares s (Err (Begin.Spent File)) may = refl
begin_spares s (Err (Begin.Spent Check)) may = refl
begin_spares s (Err (Begin.Spent Life)) may = refl
begin_spares s (Err (Begin.Spent Calls)) may = absurd (no_begin s may)

-- nor is a put
pub put_spares : (s : State) (puts : Option (List Content)) (event : Content) (reply : Result PutDone PutRefused) → AdmitsPut s puts event reply → is_spent_put reply ≡ false
put_spares s puts event (Ok done) may = refl
put_spares s puts event (Err PutNo.Stale) may = refl
put_spares s puts event (Err PutNo.Broken) may = refl
put_spares s puts event (Err (PutNo.TxnFull n)) may = refl
put_spares s puts event (Err (PutNo.TooLarge n)) may = refl
put_spares s puts event (Err (PutNo.Full n)) may = refl
put_spares s puts event (Err PutNo.DiskFault) may = refl
put_spares s puts event (Err PutNo.NoMemory) may = refl
put_spares s None event (Err (PutNo.Spent counter)) may = absurd may
put_spares s (Some events) event (Err (PutNo.Spent Txn)) may = refl
put_spares s (Some events) event (Err (PutNo.Spent Number)) may = refl
put_spares s (Some events) event (Err (PutNo.Spent File)) may = refl
put_spares s (Some events) event (Err (PutNo.Spent Check)) may = refl
put_spares s (Some events) event (Err (PutNo.Spent Life)) may = refl
put_spares s (Some events) event (Err (PutNo.Spent Calls)) may = absurd (let is : Calls ≡ File = may.1 in cc)

-- nor is a take
pub take_spares : (tells : Bool) (s : State) (takes : Option (List ℕ)) (reply : Result Taken TakeRefused) → AdmitsTake tells s takes reply → is_spent_take reply ≡ false
take_spares tells s takes (Ok taken) may = refl
take_spares tells s takes (Err TakeNo.Stale) may = refl
take_spares tells s takes (Err TakeNo.Broken) may = refl
take_spares tells s takes (Err (TakeNo.TxnFull n)) may = refl
take_spares tells s takes (Err TakeNo.ReadFault) may = refl
take_spares tells s takes (Err (TakeNo.Damaged a b)) may = refl
take_spares tells s takes (Err TakeNo.NoMemory) may = refl
take_spares tells s takes (Err TakeNo.DiskFault) may = refl
take_spares tells s None (Err (TakeNo.Spent counter)) may = absurd may
take_spares tells s (Some numbers) (Err (TakeNo.Spent Txn)) may = refl
take_spares tells s (Some numbers) (Err (TakeNo.Spent Number)) may = refl
take_spares tells s (Some numbers) (Err (TakeNo.Spent File)) may = refl
take_spares tells s (Some numbers) (Err (TakeNo.Spent Check)) may = refl
take_spares tells s (Some numbers) (Err (TakeNo.Spent Life)) may = refl
take_spares tells s (Some numbers) (Err (TakeNo.Spent Calls)) may = absurd (let is : Calls ≡ File = may.1 in cc)

no_room : (kind : Kind) (s : State) (size : ℕ) → room_refusal kind s size ≡ Some (StageNo.Spent Calls) → ⊥
no_room OnFile s size is = cc
no_room InMemory s size is = by_test (nat_lt s.rules.limits.capacity (length s.items + length (put_events s.staged) + size)) is
  where
    by_test : (b : Bool) → cond b (Some (StageNo.Full (length s.items + length (put_events s.staged)))) None ≡ Some (StageNo.Spent Calls) → ⊥
    by_test true h = cc
    by_test false h = cc

no_stage_put : (s : State) (puts : Option (List Content)) → stage_put_refusal s puts ≡ Some (StageNo.Spent Calls) → ⊥
no_stage_put s None is = cc
no_stage_put s (Some events) is = by_tests s.broken (room_refusal s.rules.kind s (length events)) (nat_lt (2 ^ 64 - 1) (next_number s + length events)) (no_room s.rules.kind s (length events)) is
  where
    by_tests : (a : Bool) (o : Option StageCause) (b : Bool) → (o ≡ Some (StageNo.Spent Calls) → ⊥) → cond a (Some StageNo.Broken) (or_else o (cond b (Some (StageNo.Spent Number)) None)) ≡ Some (StageNo.Spent Calls) → ⊥
    by_tests true o b never h = cc
    by_tests false (Some cause) b never h = never h
    by_tests false None true never h = cc
    by_tests false None false never h = cc

no_stage_take : (s : State) (takes : Option (List ℕ)) → stage_take_refusal s takes ≡ Some (StageNo.Spent Calls) → ⊥
no_stage_take s None is = cc
no_stage_take s (Some numbers) is = by_test s.broken is
  where
    by_test : (a : Bool) → cond a (Some StageNo.Broken) None ≡ Some (StageNo.Spent Calls) → ⊥
    by_test true h = cc
    by_test false h = cc

stage_spares : (refusal : Option StageCause) (its : Ticket) (reply : Result Ticket StageCause) → (refusal ≡ Some (StageNo.Spent Calls) → ⊥) → AdmitsStage refusal its reply → is_spent_stage reply ≡ false
stage_spares refusal its (Ok given) never may = refl
stage_spares refusal its (Err StageNo.Stale) never may = refl
stage_spares refusal its (Err StageNo.Broken) never may = refl
stage_spares refusal its (Err (StageNo.Full n)) never may = refl
stage_spares refusal its (Err (StageNo.Spent Txn)) never may = refl
stage_spares refusal its (Err (StageNo.Spent Number)) never may = refl
stage_spares refusal its (Err (StageNo.Spent File)) never may = refl
stage_spares refusal its (Err (StageNo.Spent Check)) never may = refl
stage_spares refusal its (Err (StageNo.Spent Life)) never may = refl
stage_spares refusal its (Err (StageNo.Spent Calls)) never may = absurd (never may)

-- nor is a stage of puts
pub stage_put_spares : (s : State) (puts : Option (List Content)) (its : Ticket) (reply : Result Ticket StageCause) → AdmitsStage (stage_put_refusal s puts) its reply → is_spent_stage reply ≡ false
stage_put_spares s puts its reply may = stage_spares (stage_put_refusal s puts) its reply (no_stage_put s puts) may

-- nor is a stage of takes
pub stage_take_spares : (s : State) (takes : Option (List ℕ)) (its : Ticket) (reply : Result Ticket StageCause) → AdmitsStage (stage_take_refusal s takes) its reply → is_spent_stage reply ≡ false
stage_take_spares s takes its reply may = stage_spares (stage_take_refusal s takes) its reply (no_stage_take s takes) may

-- nor is a flush
pub flush_spares : (s : State) (reply : Result (Unit {0}) FlushRefused) → AdmitsFlush s reply → is_spent_flush reply ≡ false
flush_spares s (Ok done) may = refl
flush_spares s (Err FlushNo.Broken) may = refl
flush_spares s (Err FlushNo.DiskFault) may = refl
flush_spares s (Err (FlushNo.Spent counter)) may = absurd may
