-- When a channel of the world agrees with a channel that runs: each step that a call was can be taken there too.
use Rattle.std.specs.Prelude.{◌≡◌, ◌<◌, ◌≤◌, ◌+◌, ◌-◌, ◌^◌, ℕ, List, [], ◌∷◌, length, Option, Some, None, Ok, Err, true, false, ◌==◌, if◌then◌else◌}
use Rattle.event_core.specs.Content.{Content}
use Rattle.event_core.specs.Journal.{IsBase}
use Rattle.event_core.specs.declared.journal.Entry.{Entry}
use Rattle.event_core.specs.declared.journal.Entry.TheVariants.{Puts, Takes}
use Rattle.channel_face.specs.Token.{Token}
use Rattle.channel_face.specs.Machine.{State, Call, BeginPut, BeginTake, Put, Take, StagePut, StageTake, Flush, RollbackPut, RollbackTake, Checkpoint, Prune, Reopen, Front, Admits, after, settle, puts_of, takes_of}
use Rattle.channel_face.specs.History.{Opening, Step as Made, opening, IsRun, state_after}
use Rattle.channel_face.specs.Laws.{ReadsNone, KeepsFront}
use Rattle.channel_face.specs.declared.replies.Kind.TheVariants.{File as OnFile}
use Rattle.channel_face.specs.declared.replies.Ticket.{Ticket}
use Rattle.channel_face.specs.declared.replies.PutRefused.TheVariants as PutNo
use Rattle.channel_face.specs.declared.replies.TakeRefused.TheVariants as TakeNo
use Rattle.channel_face.specs.declared.replies.FlushRefused.TheVariants as FlushNo
use Rattle.channel_face.specs.declared.replies.CheckRefused.TheVariants as CheckNo
use Rattle.channel_face.specs.declared.replies.OpenCause.{OpenCause}
use Rattle.world_laws.specs.World.{Channel, Delivery}
use Rattle.world_laws.specs.Channels.{stored, flushed, failed, take_begun, taken, committed, given_up, reopened}

-- Calls that were answered as the machine may answer them lead a file channel here, from a base within its capacity. No reopening read its list
-- from a disk that does not show its contents.
pub record IsReached (s : State) : Type 0 where
  pub start : Opening
  pub calls : List Made
  pub base : IsBase start.base
  pub within : length start.base.items ≤ start.rules.limits.capacity
  pub kind : start.rules.kind ≡ OnFile
  pub run : IsRun true (opening start) calls
  pub fronts : ReadsNone calls
  pub state : state_after (opening start) calls ≡ s

-- the sum of a number of each open transaction
abbrev pub sum_of : (Entry → ℕ) → List (ℕ × Entry) → ℕ
sum_of f [] = 0
sum_of f (o ∷ opened) = f o.1 + sum_of f opened

-- one for each of puts
abbrev pub puts_one : Entry → ℕ
puts_one (Puts events) = 1
puts_one (Takes numbers) = 0

-- and one for each of takes
abbrev pub takes_one : Entry → ℕ
takes_one (Puts events) = 0
takes_one (Takes numbers) = 1

-- how often a number is there
abbrev pub times : ℕ → List ℕ → ℕ
times n [] = 0
times n (x ∷ xs) = (if x == n then 1 else 0) + times n xs

-- how often a transaction took it
abbrev pub times_in : ℕ → Entry → ℕ
times_in n (Puts events) = 0
times_in n (Takes numbers) = times n numbers

-- The world's channel t has the same left, numbered and staged as the running one, s, and is broken where it is. It has no open puts and no more
-- open takes, and these hold the same numbers.
pub record Agrees (t s : State) : Type 0 where
  pub rules : t.rules ≡ s.rules
  pub items : t.items ≡ s.items
  pub first : t.first ≡ s.first
  pub staged : t.staged ≡ s.staged
  pub broken : t.broken ≡ s.broken
  pub no_puts : sum_of puts_one t.opened ≡ 0
  pub few : sum_of takes_one t.opened ≤ sum_of takes_one s.opened
  pub held : (n : ℕ) → sum_of (times_in n) t.opened ≡ sum_of (times_in n) s.opened

-- the step can be taken by the world's channel, which agrees then too
abbrev pub IsTaken : Option Channel → State → Type 0
IsTaken step s = (d : Channel) × (step ≡ Some d) × Agrees d.state s

-- So it is with a take that gives this event, and the open take under this token has the same numbers as before then.
abbrev pub IsTakenFrom : Option (Channel × Content) → Content → Token → State → Token → Type 0
IsTakenFrom step e own s token = (d : Channel) × (step ≡ Some (d, e)) × Agrees d.state s × (takes_of d.state own ≡ takes_of s token)

-- What a call is for the world's channel.

-- a flush: what is staged settles
abbrev pub IsSettling : Call → Type 0
IsSettling (Flush (Ok done)) = Unit {0}
IsSettling (Checkpoint (Ok done)) = Unit {0}
IsSettling (Checkpoint (Err CheckNo.CheckFault)) = Unit {0}
IsSettling call = ⊥

-- a flush that failed: the channel breaks, and keeps it staged
abbrev pub IsBreaking : Call → Type 0
IsBreaking (Put token e (Err PutNo.DiskFault)) = Unit {0}
IsBreaking (Take token (Err TakeNo.DiskFault)) = Unit {0}
IsBreaking (Flush (Err FlushNo.DiskFault)) = Unit {0}
IsBreaking (Checkpoint (Err CheckNo.DiskFault)) = Unit {0}
IsBreaking call = ⊥

-- No step: a begin, a put that came to no flush, a rollback or an empty stage of puts; a take that gave no event; and a refused call, unless the
-- disk failed.
abbrev pub IsNoStep : State → Call → Type 0
IsNoStep s (BeginPut reply) = Unit {0}
IsNoStep s (BeginTake (Err refused)) = Unit {0}
IsNoStep s (Put token e (Ok done)) = done.spilled ≡ false
IsNoStep s (Put token e (Err PutNo.DiskFault)) = ⊥
IsNoStep s (Put token e (Err refused)) = Unit {0}
IsNoStep s (Take token (Ok got)) = got.event ≡ None
IsNoStep s (Take token (Err TakeNo.DiskFault)) = ⊥
IsNoStep s (Take token (Err refused)) = Unit {0}
IsNoStep s (StagePut token (Ok ticket)) = puts_of s token ≡ Some []
IsNoStep s (StagePut token (Err cause)) = Unit {0}
IsNoStep s (StageTake token (Err cause)) = Unit {0}
IsNoStep s (Flush (Err FlushNo.Broken)) = Unit {0}
IsNoStep s (RollbackPut token ended) = Unit {0}
IsNoStep s (RollbackTake token false) = Unit {0}
IsNoStep s (Checkpoint (Err CheckNo.Broken)) = Unit {0}
IsNoStep s (Checkpoint (Err (CheckNo.Spent counter))) = Unit {0}
IsNoStep s (Prune reply) = Unit {0}
IsNoStep s call = ⊥

-- Each call of the running channel that is a step is one that the world's channel can take: a flush; a stage of puts and a begin of takes, if the
-- world's channel has a number left for a transaction; where the tokens are of open takes of the same numbers, a take that came to no flush, a stage
-- and a rollback of takes; and a reopening, if the world's channel has a life left. After each the two agree again, and so they do after a call that
-- is no step.
pub record CallsAreTaken (s : State) (c : Channel) : Type 0 where
  pub stored :
      (token : Token) (ticket : Ticket) (e : Content) (events : List Content) → c.state.txn < 2 ^ 64 - 1
      → puts_of s token ≡ Some (e ∷ events)
      → Admits true s (StagePut token (Ok ticket)) → IsTaken (stored (e ∷ events) c) (after s (StagePut token (Ok ticket)))
  pub settled : (call : Call) → IsSettling call → Admits true s call → IsTaken (flushed true c) (after s call)
  pub broken : (call : Call) → IsBreaking call → Admits true s call → IsTaken (flushed false c) (after s call)
  pub begun :
      (token : Token) → c.state.txn < 2 ^ 64 - 1 → Admits true s (BeginTake (Ok token)) → IsTaken (take_begun c) (after s (BeginTake (Ok token)))
  pub taken :
      (token own : Token) (e : Content) → takes_of c.state own ≡ takes_of s token
      → Admits true s (Take token (Ok (record { event = Some e; spilled = false })))
      → IsTakenFrom (taken own c) e own (after s (Take token (Ok (record { event = Some e; spilled = false })))) token
  pub committed :
      (token own : Token) (ticket : Ticket) (delivery : Delivery) (events : List Content) → takes_of c.state own ≡ takes_of s token
      → Admits true s (StageTake token (Ok ticket)) → IsTaken (committed own delivery events c) (after s (StageTake token (Ok ticket)))
  pub given_up :
      (token own : Token) → takes_of c.state own ≡ takes_of s token → Admits true s (RollbackTake token true)
      → IsTaken (given_up own c) (after s (RollbackTake token true))
  pub reopened :
      (kept txn : ℕ) → c.state.life < 2 ^ 64 - 1 → Admits true s (Reopen (Ok (record { kept = Front kept; txn = txn })))
      → IsTaken (reopened kept c) (after s (Reopen (Ok (record { kept = Front kept; txn = txn }))))
  pub failed : (cause : OpenCause) → Admits true s (Reopen (Err cause)) → IsTaken (failed c) (after s (Reopen (Err cause)))
  pub no_step : (call : Call) → IsNoStep s call → Admits true s call → Agrees c.state (after s call)

-- A put that came to a flush is a flush and then a put that came to none, and so is a take that gave an event.
pub record SpillsAreFlushes (s : State) : Type 0 where
  pub put :
      (token : Token) (e : Content) → Admits true s (Put token e (Ok (record { spilled = true })))
      → Admits true s (Flush (Ok tt)) × Admits true (settle s) (Put token e (Ok (record { spilled = false })))
      × (after s (Put token e (Ok (record { spilled = true }))) ≡ after (settle s) (Put token e (Ok (record { spilled = false }))))
  pub take :
      (token : Token) (e : Content) → Admits true s (Take token (Ok (record { event = Some e; spilled = true })))
      → Admits true s (Flush (Ok tt)) × Admits true (settle s) (Take token (Ok (record { event = Some e; spilled = false })))
      × (after s (Take token (Ok (record { event = Some e; spilled = true })))
      ≡ after (settle s) (Take token (Ok (record { event = Some e; spilled = false }))))

-- so it is in each state of a file channel
abbrev pub SpillsAreSteps : Type 0
SpillsAreSteps = (s : State) → s.rules.kind ≡ OnFile → SpillsAreFlushes s

-- What a call leads to is reached again.
abbrev pub ReachedOn : Type 0
ReachedOn = (s : State) (call : Call) → IsReached s → Admits true s call → KeepsFront call → IsReached (after s call)
