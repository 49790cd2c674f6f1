-- The channel as a machine: its state, what each call may answer there, and the state after it.
use Rattle.std.specs.Prelude.{◌≡◌, ◌<◌, ◌≤◌, ◌+◌, ◌-◌, ◌^◌, ◌⊎◌, ℕ, List, [], ◌∷◌, ◌++◌, length, take, get_or, Option, Some, None, IsSome, Result, Ok, Err, Bool, true, false, not, ◌==◌, ◌&&◌, nat_lt, nat_le, if◌then◌else◌}
use Rattle.event_core.specs.Content.{Content, size}
use Rattle.event_core.specs.Journal.{Base, IsBase, put_events, taken_numbers, without, left, next, after_journal}
use Rattle.event_core.specs.declared.journal.Entry.{Entry}
use Rattle.event_core.specs.declared.journal.Entry.TheVariants.{Puts, Takes}
use Rattle.channel_face.specs.Token.{Token}
use Rattle.channel_face.specs.declared.replies.Kind.{Kind}
use Rattle.channel_face.specs.declared.replies.Kind.TheVariants.{File as OnFile, Memory as InMemory}
use Rattle.channel_face.specs.declared.replies.Limits.{Limits}
use Rattle.channel_face.specs.declared.replies.Ticket.{Ticket}
use Rattle.channel_face.specs.declared.replies.Settled.{Settled}
use Rattle.channel_face.specs.declared.replies.Settled.TheVariants.{Yes, No, InDoubt}
use Rattle.channel_face.specs.declared.replies.Counter.TheVariants.{Txn, Number, File, Check, Life}
use Rattle.channel_face.specs.declared.replies.Put.{Put as PutDone}
use Rattle.channel_face.specs.declared.replies.Taken.{Taken}
use Rattle.channel_face.specs.declared.replies.BeginRefused.{BeginRefused}
use Rattle.channel_face.specs.declared.replies.BeginRefused.TheVariants as Begin
use Rattle.channel_face.specs.declared.replies.PutRefused.{PutRefused}
use Rattle.channel_face.specs.declared.replies.PutRefused.TheVariants as PutNo
use Rattle.channel_face.specs.declared.replies.TakeRefused.{TakeRefused}
use Rattle.channel_face.specs.declared.replies.TakeRefused.TheVariants as TakeNo
use Rattle.channel_face.specs.declared.replies.StageCause.{StageCause}
use Rattle.channel_face.specs.declared.replies.StageCause.TheVariants as StageNo
use Rattle.channel_face.specs.declared.replies.FlushRefused.{FlushRefused}
use Rattle.channel_face.specs.declared.replies.FlushRefused.TheVariants as FlushNo
use Rattle.channel_face.specs.declared.replies.OpenCause.{OpenCause}
use Rattle.channel_face.specs.declared.replies.OpenCause.TheVariants as OpenNo
use Rattle.channel_face.specs.declared.replies.CheckRefused.{CheckRefused}
use Rattle.channel_face.specs.declared.replies.CheckRefused.TheVariants as CheckNo
use Rattle.channel_face.specs.declared.replies.PruneRefused.{PruneRefused}
use Rattle.channel_face.specs.declared.replies.PruneRefused.TheVariants as PruneNo

-- What stays the same for a channel's whole life.
pub record Rules : Type 0 where
  pub kind : Kind
  pub limits : Limits

pub record State : Type 0 where
  pub rules : Rules
  -- the events that are left, with their numbers
  pub items : List (ℕ × Content)
  -- the number of the next event to be settled
  pub first : ℕ
  -- the number of the next transaction
  pub txn : ℕ
  -- each open transaction's number, with its puts or what it took
  pub opened : List (ℕ × Entry)
  -- what was staged since the last flush, in order
  pub staged : List Entry
  pub broken : Bool
  pub life : ℕ
  -- the number of the frame that the next flush carries, from 1 in each life
  pub frame : ℕ
  -- the frame that each earlier life ended with
  pub ends : List ℕ

-- What a reopen kept: so many of the staged entries, from the first on, or what it read from a disk that doesn't show its contents.
pub data Kept : Type 0 where
  Front : ℕ → Kept
  Read : Base → Kept

pub record Reopened : Type 0 where
  pub kept : Kept
  pub txn : ℕ

-- A call with its reply.
pub data Call : Type 0 where
  BeginPut : Result Token BeginRefused → Call
  BeginTake : Result Token BeginRefused → Call
  Put : Token → Content → Result PutDone PutRefused → Call
  Take : Token → Result Taken TakeRefused → Call
  StagePut : Token → Result Ticket StageCause → Call
  StageTake : Token → Result Ticket StageCause → Call
  Flush : Result (Unit {0}) FlushRefused → Call
  RollbackPut : Token → Bool → Call
  RollbackTake : Token → Bool → Call
  Checkpoint : Result (Unit {0}) CheckRefused → Call
  Prune : Result ℕ PruneRefused → Call
  Reopen : Result Reopened OpenCause → Call

abbrev pub base_of : State → Base
base_of s = record { items = s.items; first = s.first }

-- the number of the next event to be staged
abbrev pub next_number : State → ℕ
next_number s = next (base_of s) s.staged

abbrev pub entries : List (ℕ × Entry) → List Entry
entries [] = []
entries (o ∷ opened) = o.1 ∷ entries opened

-- what is left and not taken by an open or staged transaction
abbrev pub free : State → List (ℕ × Content)
free s = without (taken_numbers (entries s.opened) ++ taken_numbers s.staged) s.items

-- the events left and those of open and staged puts
abbrev pub count : State → ℕ
count s = length s.items + length (put_events (entries s.opened)) + length (put_events s.staged)

-- the entry of the open transaction of this number
abbrev pub entry_of : ℕ → List (ℕ × Entry) → Option Entry
entry_of number [] = None
entry_of number (o ∷ opened) = if o.0 == number then Some o.1 else entry_of number opened

abbrev pub as_puts : Option Entry → Option (List Content)
as_puts None = None
as_puts (Some (Puts events)) = Some events
as_puts (Some (Takes numbers)) = None

abbrev pub as_takes : Option Entry → Option (List ℕ)
as_takes None = None
as_takes (Some (Puts events)) = None
as_takes (Some (Takes numbers)) = Some numbers

-- the list of the token's open puts, or none where it is stale
abbrev pub puts_of : State → Token → Option (List Content)
puts_of s token = if token.life == s.life then as_puts (entry_of token.number s.opened) else None

abbrev pub takes_of : State → Token → Option (List ℕ)
takes_of s token = if token.life == s.life then as_takes (entry_of token.number s.opened) else None

abbrev pub with_entry : ℕ → Entry → List (ℕ × Entry) → List (ℕ × Entry)
with_entry number entry [] = []
with_entry number entry (o ∷ opened) = if o.0 == number then (o.0, entry) ∷ opened else o ∷ with_entry number entry opened

abbrev pub without_entry : ℕ → List (ℕ × Entry) → List (ℕ × Entry)
without_entry number [] = []
without_entry number (o ∷ opened) = if o.0 == number then opened else o ∷ without_entry number opened

abbrev pub is_none_staged : List Entry → Bool
is_none_staged [] = true
is_none_staged (entry ∷ staged) = false

-- what is staged counts from now on
abbrev pub settle : State → State
settle s = record s {
  items = left (base_of s) s.staged;
  first = next (base_of s) s.staged;
  staged = [];
  frame = if is_none_staged s.staged then s.frame else s.frame + 1;
}

abbrev pub settle_if : Bool → State → State
settle_if spilled s = if spilled then settle s else s

-- the cause that the state gives to refuse, if any; a token's list is none where it is stale

abbrev pub begin_refusal : State → Option BeginRefused
begin_refusal s =
    if s.broken then Some Begin.Broken
    else if nat_le 1024 (length s.opened) then Some (Begin.TooManyOpen 1024)
    else if nat_le (2 ^ 64 - 1) s.txn then Some (Begin.Spent Txn)
    else None

abbrev pub size_refusal : Kind → State → Content → Option PutRefused
size_refusal OnFile s event =
    if nat_lt 1048576 (size event) then Some (PutNo.TooLarge (size event))
    else if nat_le s.rules.limits.capacity (count s) then Some (PutNo.Full (count s))
    else None
size_refusal InMemory s event = None

abbrev pub put_refusal : State → Option (List Content) → Content → Option PutRefused
put_refusal s None event = Some PutNo.Stale
put_refusal s (Some events) event =
    if s.broken then Some PutNo.Broken
    else if nat_le s.rules.limits.txn_capacity (length events) then Some (PutNo.TxnFull (length events))
    else size_refusal s.rules.kind s event

abbrev pub take_refusal : State → Option (List ℕ) → Option TakeRefused
take_refusal s None = Some TakeNo.Stale
take_refusal s (Some numbers) =
    if s.broken then Some TakeNo.Broken
    else if nat_le s.rules.limits.txn_capacity (length numbers) then Some (TakeNo.TxnFull (length numbers))
    else None

abbrev pub room_refusal : Kind → State → ℕ → Option StageCause
room_refusal OnFile s size = None
room_refusal InMemory s size =
    if nat_lt s.rules.limits.capacity (length s.items + length (put_events s.staged) + size)
    then Some (StageNo.Full (length s.items + length (put_events s.staged)))
    else None

abbrev pub or_else : {A : Type 0} → Option A → Option A → Option A
or_else None b = b
or_else (Some x) b = Some x

abbrev pub stage_put_refusal : State → Option (List Content) → Option StageCause
stage_put_refusal s None = Some StageNo.Stale
stage_put_refusal s (Some events) =
    if s.broken then Some StageNo.Broken
    else or_else (room_refusal s.rules.kind s (length events))
    (if nat_lt (2 ^ 64 - 1) (next_number s + length events) then Some (StageNo.Spent Number) else None)

abbrev pub stage_take_refusal : State → Option (List ℕ) → Option StageCause
stage_take_refusal s None = Some StageNo.Stale
stage_take_refusal s (Some numbers) = if s.broken then Some StageNo.Broken else None

abbrev pub frame_for : State → ℕ → ℕ
frame_for s size = if size == 0 then 0 else s.frame

abbrev pub ticket : State → ℕ → ℕ → Ticket
ticket s first size = record { life = s.life; frame = frame_for s size; first = first; count = size }

abbrev pub size_of_list : {A : Type 0} → Option (List A) → ℕ
size_of_list None = 0
size_of_list (Some xs) = length xs

abbrev pub first_event : List (ℕ × Content) → Option Content
first_event [] = None
first_event (item ∷ items) = Some item.1

-- what a take gives. Over a disk that doesn't show its contents it is known by its size alone
abbrev pub Gives : Bool → Option Content → Option Content → Type 0
Gives true kept given = given ≡ kept
Gives false None None = Unit {0}
Gives false None (Some e) = ⊥
Gives false (Some e) None = ⊥
Gives false (Some kept) (Some given) = size given ≡ size kept

-- a spill is of a file, and a take that gives nothing makes none
abbrev pub MaySpill : Kind → Bool → Type 0
MaySpill OnFile spilled = Unit {0}
MaySpill InMemory spilled = spilled ≡ false

abbrev pub SpillsNone : Option Content → Bool → Type 0
SpillsNone None spilled = spilled ≡ false
SpillsNone (Some e) spilled = Unit {0}

-- where the machine may give this reply to this call

abbrev pub AdmitsBegin : State → Result Token BeginRefused → Type 0
AdmitsBegin s (Ok token) = (begin_refusal s ≡ None) × (token ≡ record { life = s.life; number = s.txn })
AdmitsBegin s (Err Begin.NoMemory) = begin_refusal s ≡ None
AdmitsBegin s (Err e) = begin_refusal s ≡ Some e

abbrev pub AdmitsPut : State → Option (List Content) → Content → Result PutDone PutRefused → Type 0
AdmitsPut s puts event (Ok done) = (put_refusal s puts event ≡ None) × MaySpill s.rules.kind done.spilled
AdmitsPut s puts event (Err PutNo.NoMemory) = Unit {0}
AdmitsPut s puts event (Err PutNo.DiskFault) = (put_refusal s puts event ≡ None) × (s.rules.kind ≡ OnFile)
AdmitsPut s None event (Err (PutNo.Spent counter)) = ⊥
AdmitsPut s (Some events) event (Err (PutNo.Spent counter)) = (s.broken ≡ false) × (counter ≡ File) × (s.rules.kind ≡ OnFile)
AdmitsPut s puts event (Err e) = put_refusal s puts event ≡ Some e

abbrev pub AdmitsTake : Bool → State → Option (List ℕ) → Result Taken TakeRefused → Type 0
AdmitsTake tells s takes (Ok taken) = (take_refusal s takes ≡ None) × Gives tells (first_event (free s)) taken.event × MaySpill s.rules.kind taken.spilled × SpillsNone taken.event taken.spilled
AdmitsTake tells s takes (Err TakeNo.NoMemory) = Unit {0}
AdmitsTake tells s takes (Err TakeNo.ReadFault) = (take_refusal s takes ≡ None) × (s.rules.kind ≡ OnFile) × IsSome (first_event (free s))
AdmitsTake tells s takes (Err (TakeNo.Damaged kept found)) = (take_refusal s takes ≡ None) × (s.rules.kind ≡ OnFile) × (tells ≡ false) × IsSome (first_event (free s))
AdmitsTake tells s takes (Err TakeNo.DiskFault) = (take_refusal s takes ≡ None) × (s.rules.kind ≡ OnFile) × IsSome (first_event (free s))
AdmitsTake tells s None (Err (TakeNo.Spent counter)) = ⊥
AdmitsTake tells s (Some numbers) (Err (TakeNo.Spent counter)) = (s.broken ≡ false) × (counter ≡ File) × (s.rules.kind ≡ OnFile)
AdmitsTake tells s takes (Err e) = take_refusal s takes ≡ Some e

abbrev pub AdmitsStage : Option StageCause → Ticket → Result Ticket StageCause → Type 0
AdmitsStage refusal its (Ok given) = (refusal ≡ None) × (given ≡ its)
AdmitsStage refusal its (Err cause) = refusal ≡ Some cause

abbrev pub AdmitsFlush : State → Result (Unit {0}) FlushRefused → Type 0
AdmitsFlush s (Ok done) = s.broken ≡ false
AdmitsFlush s (Err FlushNo.Broken) = s.broken ≡ true
AdmitsFlush s (Err FlushNo.DiskFault) = (s.broken ≡ false) × (s.rules.kind ≡ OnFile)
AdmitsFlush s (Err (FlushNo.Spent counter)) = ⊥

abbrev pub AdmitsCheckpoint : State → Result (Unit {0}) CheckRefused → Type 0
AdmitsCheckpoint s (Err CheckNo.Broken) = s.broken ≡ true
AdmitsCheckpoint s (Err (CheckNo.Spent counter)) = (s.broken ≡ false) × (counter ≡ Check)
AdmitsCheckpoint s reply = s.broken ≡ false

abbrev pub AdmitsPrune : State → Result ℕ PruneRefused → Type 0
AdmitsPrune s (Err PruneNo.Broken) = s.broken ≡ true
AdmitsPrune s (Err (PruneNo.Spent counter)) = ⊥
AdmitsPrune s reply = s.broken ≡ false

abbrev pub MayKeep : Bool → State → Kept → Type 0
MayKeep tells s (Front k) = k ≤ length s.staged
MayKeep tells s (Read base) = (tells ≡ false) × IsBase base

abbrev pub AdmitsReopen : Bool → State → Result Reopened OpenCause → Type 0
AdmitsReopen tells s (Ok r) = (s.life < 2 ^ 64 - 1) × MayKeep tells s r.kept
AdmitsReopen tells s (Err (OpenNo.Spent counter)) = ((counter ≡ Life) × (s.life ≡ 2 ^ 64 - 1)) ⊎ ((counter ≡ File) × (s.life < 2 ^ 64 - 1))
AdmitsReopen tells s (Err OpenNo.NoMemory) = Unit {0}
AdmitsReopen tells s (Err e) = s.life < 2 ^ 64 - 1

abbrev pub is_some_of : {A : Type 0} → Option A → Bool
is_some_of None = false
is_some_of (Some x) = true

abbrev pub Admits : Bool → State → Call → Type 0
Admits tells s (BeginPut reply) = AdmitsBegin s reply
Admits tells s (BeginTake reply) = AdmitsBegin s reply
Admits tells s (Put token event reply) = AdmitsPut s (puts_of s token) event reply
Admits tells s (Take token reply) = AdmitsTake tells s (takes_of s token) reply
Admits tells s (StagePut token reply) = AdmitsStage (stage_put_refusal s (puts_of s token)) (ticket s (next_number s) (size_of_list (puts_of s token))) reply
Admits tells s (StageTake token reply) = AdmitsStage (stage_take_refusal s (takes_of s token)) (ticket s 0 (size_of_list (takes_of s token))) reply
Admits tells s (Flush reply) = AdmitsFlush s reply
Admits tells s (RollbackPut token ended) = ended ≡ is_some_of (puts_of s token)
Admits tells s (RollbackTake token ended) = ended ≡ is_some_of (takes_of s token)
Admits tells s (Checkpoint reply) = AdmitsCheckpoint s reply × (s.rules.kind ≡ OnFile)
Admits tells s (Prune reply) = AdmitsPrune s reply × (s.rules.kind ≡ OnFile)
Admits tells s (Reopen reply) = AdmitsReopen tells s reply × (s.rules.kind ≡ OnFile)

-- the state after a call that was so answered

abbrev pub broken_state : State → State
broken_state s = record s { broken = true }

abbrev pub after_begin : Entry → State → Result Token BeginRefused → State
after_begin entry s (Ok token) = record s { opened = s.opened ++ (s.txn, entry) ∷ []; txn = s.txn + 1 }
after_begin entry s (Err e) = s

abbrev pub add_put : State → ℕ → Option (List Content) → Content → State
add_put s number None event = s
add_put s number (Some events) event = record s { opened = with_entry number (Puts (events ++ event ∷ [])) s.opened }

abbrev pub after_put : State → Token → Option (List Content) → Content → Result PutDone PutRefused → State
after_put s token puts event (Ok done) = add_put (settle_if done.spilled s) token.number puts event
after_put s token puts event (Err PutNo.DiskFault) = broken_state s
after_put s token puts event (Err e) = s

abbrev pub add_take : State → ℕ → Option (List ℕ) → List (ℕ × Content) → State
add_take s number None items = s
add_take s number (Some numbers) [] = s
add_take s number (Some numbers) (item ∷ items) = record s { opened = with_entry number (Takes (numbers ++ item.0 ∷ [])) s.opened }

abbrev pub after_take : State → Token → Option (List ℕ) → List (ℕ × Content) → Result Taken TakeRefused → State
after_take s token takes items (Ok taken) = add_take (settle_if taken.spilled s) token.number takes items
after_take s token takes items (Err TakeNo.DiskFault) = broken_state s
after_take s token takes items (Err e) = s

-- the transaction is open no more
abbrev pub close : ℕ → State → State
close number s = record s { opened = without_entry number s.opened }

abbrev pub stage : ℕ → Option Entry → State → State
stage number None s = s
stage number (Some (Puts [])) s = close number s
stage number (Some (Takes [])) s = close number s
stage number (Some entry) s = record s { opened = without_entry number s.opened; staged = s.staged ++ entry ∷ [] }

abbrev pub after_stage : State → Token → Result Ticket StageCause → State
after_stage s token (Ok given) = stage token.number (entry_of token.number s.opened) s
after_stage s token (Err cause) = s

abbrev pub after_flush : State → Result (Unit {0}) FlushRefused → State
after_flush s (Ok done) = settle s
after_flush s (Err FlushNo.Broken) = s
after_flush s (Err FlushNo.DiskFault) = broken_state s
after_flush s (Err (FlushNo.Spent counter)) = s

abbrev pub after_checkpoint : State → Result (Unit {0}) CheckRefused → State
after_checkpoint s (Ok done) = settle s
after_checkpoint s (Err CheckNo.CheckFault) = settle s
after_checkpoint s (Err CheckNo.DiskFault) = broken_state s
after_checkpoint s (Err e) = s

abbrev pub kept_base : State → Kept → Base
kept_base s (Front k) = after_journal (base_of s) (take k s.staged)
kept_base s (Read base) = base

abbrev pub after_reopen : State → Result Reopened OpenCause → State
after_reopen s (Err e) = broken_state s
after_reopen s (Ok r) = record {
  rules = s.rules;
  items = (kept_base s r.kept).items;
  first = (kept_base s r.kept).first;
  txn = r.txn;
  opened = [];
  staged = [];
  broken = false;
  life = s.life + 1;
  frame = 1;
  ends = s.ends ++ s.frame ∷ [];
}

abbrev pub after : State → Call → State
after s (BeginPut reply) = after_begin (Puts []) s reply
after s (BeginTake reply) = after_begin (Takes []) s reply
after s (Put token event reply) = after_put s token (puts_of s token) event reply
after s (Take token reply) = after_take s token (takes_of s token) (free s) reply
after s (StagePut token reply) = after_stage s token reply
after s (StageTake token reply) = after_stage s token reply
after s (Flush reply) = after_flush s reply
after s (RollbackPut token ended) = if ended then close token.number s else s
after s (RollbackTake token ended) = if ended then close token.number s else s
after s (Checkpoint reply) = after_checkpoint s reply
after s (Prune reply) = s
after s (Reopen reply) = after_reopen s reply

-- whether what the ticket stands for is settled
abbrev pub settled : State → Ticket → Settled
settled s t =
    if t.frame == 0 then Yes
    else if t.life == s.life
    then (if nat_lt t.frame s.frame then Yes else if (t.frame == s.frame) && not s.broken then No else InDoubt)
    else if nat_lt 0 t.life && (nat_lt t.life s.life && nat_lt t.frame (get_or s.ends (t.life - 1) 0)) then Yes
    else InDoubt
