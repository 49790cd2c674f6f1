-- Histories: calls with replies, one after another, as a run of the machine.
use Rattle.std.specs.Prelude.{◌≡◌, ℕ, List, [], ◌∷◌, ◌++◌, take, Result, Ok, Err, Bool, true, false, if◌then◌else◌}
use Rattle.event_core.specs.Journal.{Base, after_journal}
use Rattle.event_core.specs.declared.journal.Entry.{Entry}
use Rattle.channel_face.specs.Machine.{State, Rules, Call, Put, Take, Flush, Checkpoint, Reopen, Kept, Front, Read, Reopened, Admits, after}
use Rattle.channel_face.specs.declared.replies.CheckRefused.TheVariants as CheckNo
use Rattle.channel_face.specs.declared.replies.OpenCause.{OpenCause}

-- One call of a history: whose it was, what it answered, and the disk's clock when it ended.
pub record Step : Type 0 where
  pub pass : ℕ
  pub call : Call
  pub moment : ℕ

-- How a channel begins. The machine reads none of the last three.
pub record Opening : Type 0 where
  pub rules : Rules
  pub base : Base
  pub txn : ℕ
  -- the disk's count of faults when the channel was opened
  pub faults : ℕ
  -- the disk's clock when the opening had settled it
  pub from : ℕ
  -- whether takes give just the events that were put
  pub tells : Bool

abbrev pub opening : Opening → State
opening o = record { rules = o.rules; items = o.base.items; first = o.base.first; txn = o.txn; opened = []; staged = []; broken = false; life = 1; frame = 1; ends = [] }

-- each call was answered as the machine may answer it
abbrev pub IsRun : Bool → State → List Step → Type 0
IsRun tells s [] = Unit {0}
IsRun tells s (step ∷ steps) = Admits tells s step.call × IsRun tells (after s step.call) steps

abbrev pub state_after : State → List Step → State
state_after s [] = s
state_after s (step ∷ steps) = state_after (after s step.call) steps

-- the entries that a call settled
abbrev pub settled_by : State → Call → List Entry
settled_by s (Put token event (Ok done)) = if done.spilled then s.staged else []
settled_by s (Take token (Ok taken)) = if taken.spilled then s.staged else []
settled_by s (Flush (Ok done)) = s.staged
settled_by s (Checkpoint (Ok done)) = s.staged
settled_by s (Checkpoint (Err CheckNo.CheckFault)) = s.staged
settled_by s call = []

-- and those that a reopen kept
abbrev pub front_of : List Entry → Kept → List Entry
front_of staged (Front k) = take k staged
front_of staged (Read base) = []

abbrev pub kept_by : State → Call → List Entry
kept_by s (Reopen (Ok r)) = front_of s.staged r.kept
kept_by s call = settled_by s call

-- the entries that were settled or kept, in order
abbrev pub journal : State → List Step → List Entry
journal s [] = []
journal s (step ∷ steps) = kept_by s step.call ++ journal (after s step.call) steps

-- those, and the ones that are staged
abbrev pub commits : State → List Step → List Entry
commits s h = journal s h ++ (state_after s h).staged

-- what a crash may leave: what is settled, and a first part of what is staged
abbrev pub MayLeave : Opening → List Step → Base → Type 0
MayLeave o h found = (k : ℕ) × (found ≡ after_journal o.base (journal (opening o) h ++ take k (state_after (opening o) h).staged))

-- A call with the moment of its end.
pub record Said : Type 0 where
  pub call : Call
  pub moment : ℕ

abbrev pub by_pass : ℕ → List Said → List Step
by_pass pass [] = []
by_pass pass (said ∷ own) = record { pass = pass; call = said.call; moment = said.moment } ∷ by_pass pass own

abbrev pub calls : List Said → List Call
calls [] = []
calls (said ∷ own) = said.call ∷ calls own

-- What a channel stands for gains these calls, whoever made them.
abbrev pub Adds : (Opening → List Step → Type 0) → (Opening → List Step → Type 0) → List Said → Type 0
Adds before later own = (start : Opening) (h : List Step) (pass : ℕ) → before start h → later start (h ++ by_pass pass own)

-- it gains one call
abbrev pub AddsOne : (Opening → List Step → Type 0) → (Opening → List Step → Type 0) → Call → ℕ → Type 0
AddsOne before later call moment = Adds before later (record { call = call; moment = moment } ∷ [])

-- It gains some calls, of which P is true.
abbrev pub Made : (Opening → List Step → Type 0) → (Opening → List Step → Type 0) → (List Call → Type 0) → Type 0
Made before later P = (own : List Said) × Adds before later own × P (calls own)

-- P of the state that the calls lead to
abbrev pub Shows : (Opening → List Step → Type 0) → (State → Type 0) → Type 0
Shows stands P = (start : Opening) (h : List Step) → stands start h → P (state_after (opening start) h)

-- From old, the machine may give this call this reply, and goes on to new.
pub record Moves (tells : Bool) (old : State) (call : Call) (new : State) : Type 0 where
  pub admitted : Admits tells old call
  pub state : new ≡ after old call

-- these calls are a run from the opening, which tells, to this state
abbrev pub StandsFor : State → Opening → List Step → Type 0
StandsFor s start h = IsRun true (opening start) h × (state_after (opening start) h ≡ s) × (start.tells ≡ true)

abbrev pub reopen_reply : Result (Unit {0}) OpenCause → Reopened → Result Reopened OpenCause
reopen_reply (Ok done) kept = Ok kept
reopen_reply (Err e) kept = Err e
