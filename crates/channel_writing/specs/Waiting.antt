-- How many bytes of records wait in the frame for a flush.
use Rattle.std.specs.Prelude.{◌+◌, ◌==◌, ◌||◌, ℕ, List, [], ◌∷◌, Ok, Err, Option, Some, None, Bool, if◌then◌else◌}
use Rattle.event_core.specs.Content.{Content, size}
use Rattle.channel_face.specs.History.{Step}
use Rattle.channel_face.specs.declared.replies.CheckRefused.TheVariants as CheckNo
use Rattle.channel_face.specs.Machine.{State, Call, Put, Take, StagePut, StageTake, Flush, Checkpoint, RollbackPut, RollbackTake, Reopen, after, puts_of, size_of_list, takes_of}

-- the length of the record of a take, if it gave an event
abbrev pub take_length : Option Content → ℕ
take_length None = 0
take_length (Some event) = 17

-- the length of the record by which a transaction of so many puts or takes is given up: a broken channel writes none, nor does one that did nothing
abbrev pub rollback_length : Bool → ℕ → ℕ
rollback_length broken held = if broken || (held == 0) then 0 else 9

-- How many bytes wait after a call that was made in this state, of those that waited before it. A flush writes them all.
abbrev pub waiting_after : State → Call → ℕ → ℕ
waiting_after s (Put token event (Ok done)) waiting = (if done.spilled then 0 else waiting) + (size event + 13)
waiting_after s (Take token (Ok taken)) waiting = (if taken.spilled then 0 else waiting) + take_length taken.event
waiting_after s (StagePut token (Ok ticket)) waiting = waiting + (if ticket.count == 0 then 0 else 21)
waiting_after s (StageTake token (Ok ticket)) waiting = waiting + (if ticket.count == 0 then 0 else 13)
waiting_after s (Flush (Ok done)) waiting = 0
waiting_after s (Checkpoint (Ok done)) waiting = 0
waiting_after s (Checkpoint (Err CheckNo.CheckFault)) waiting = 0
waiting_after s (RollbackPut token ended) waiting = waiting + rollback_length s.broken (size_of_list (puts_of s token))
waiting_after s (RollbackTake token ended) waiting = waiting + rollback_length s.broken (size_of_list (takes_of s token))
waiting_after s (Reopen (Ok r)) waiting = 0
waiting_after s call waiting = waiting

-- how many wait after calls, of those that waited before them
abbrev pub waiting : State → ℕ → List Step → ℕ
waiting s before [] = before
waiting s before (step ∷ h) = waiting (after s step.call) (waiting_after s step.call before) h
