-- Open transactions have earlier numbers, in every state that calls lead to.
use Rattle.std.proofs.Common.{◌++◌, ◌∷◌, [], ℕ, List, Option, Some, None, Ok, Err, Bool, true, false}
use Rattle.event_core.specs.Content.{Content}
use Rattle.event_core.specs.declared.journal.Entry.{Entry}
use Rattle.event_core.specs.declared.journal.Entry.TheVariants.{Puts, Takes}
use Rattle.channel_face.specs.Machine.{State, Call, BeginPut, BeginTake, Put, Take, StagePut, StageTake, Flush, RollbackPut, RollbackTake, Checkpoint, Prune, Reopen, after, entry_of, puts_of, takes_of, free, settle_if, stage, add_put, add_take}
use Rattle.channel_face.specs.History.{Step, state_after}
use Rattle.channel_face.specs.declared.replies.PutRefused.TheVariants as PutNo
use Rattle.channel_face.specs.declared.replies.TakeRefused.TheVariants as TakeNo
use Rattle.channel_face.specs.declared.replies.FlushRefused.TheVariants as FlushNo
use Rattle.channel_face.specs.declared.replies.CheckRefused.TheVariants as CheckNo
use Rattle.channel_face.specs.Sound.{AreNumbered}
use Rattle.channel_face.proofs.Opened.{numbered-push, numbered-with, numbered-without}

abbrev pub AreEarlier : State → Type 0
AreEarlier s = AreNumbered s.txn s.opened

earlier_if : (b : Bool) (s : State) → AreEarlier s → AreEarlier (settle_if b s)
earlier_if true s all = all
earlier_if false s all = all

earlier_put : (s : State) (number : ℕ) (puts : Option (List Content)) (event : Content) → AreEarlier s → AreEarlier (add_put s number puts event)
earlier_put s number None event all = all
earlier_put s number (Some events) event all = numbered-with s.txn number (Puts (events ++ event ∷ [])) s.opened all

earlier_take : (s : State) (number : ℕ) (takes : Option (List ℕ)) (items : List (ℕ × Content)) → AreEarlier s → AreEarlier (add_take s number takes items)
earlier_take s number None items all = all
earlier_take s number (Some numbers) [] all = all
earlier_take s number (Some numbers) (item ∷ items) all = numbered-with s.txn number (Takes (numbers ++ item.0 ∷ [])) s.opened all

earlier_stage : (s : State) (number : ℕ) (entry : Option Entry) → AreEarlier s → AreEarlier (stage number entry s)
earlier_stage s number None all = all
earlier_stage s number (Some (Puts [])) all = numbered-without s.txn number s.opened all
earlier_stage s number (Some (Takes [])) all = numbered-without s.txn number s.opened all
earlier_stage s number (Some (Puts (e ∷ es))) all = numbered-without s.txn number s.opened all
earlier_stage s number (Some (Takes (n ∷ ns))) all = numbered-without s.txn number s.opened all

-- after a call open transactions still have earlier numbers
pub earlier_after : (s : State) (call : Call) → AreEarlier s → AreEarlier (after s call)
earlier_after s (BeginPut (Ok token)) all = numbered-push s.txn (Puts []) s.opened all
earlier_after s (BeginPut (Err e)) all = all
earlier_after s (BeginTake (Ok token)) all = numbered-push s.txn (Takes []) s.opened all
earlier_after s (BeginTake (Err e)) all = all
earlier_after s (Put token event (Ok done)) all = earlier_put (settle_if done.spilled s) token.number (puts_of s token) event (earlier_if done.spilled s all)
earlier_after s (Put token event (Err PutNo.DiskFault)) all = all
earlier_after s (Put token event (Err e)) all = all
earlier_after s (Take token (Ok taken)) all = earlier_take (settle_if taken.spilled s) token.number (takes_of s token) (free s) (earlier_if taken.spilled s all)
earlier_after s (Take token (Err TakeNo.DiskFault)) all = all
earlier_after s (Take token (Err e)) all = all
earlier_after s (StagePut token (Ok given)) all = earlier_stage s token.number (entry_of token.number s.opened) all
earlier_after s (StagePut token (Err cause)) all = all
earlier_after s (StageTake token (Ok given)) all = earlier_stage s token.number (entry_of token.number s.opened) all
earlier_after s (StageTake token (Err cause)) all = all
earlier_after s (Flush (Ok done)) all = all
earlier_after s (Flush (Err FlushNo.Broken)) all = all
earlier_after s (Flush (Err FlushNo.DiskFault)) all = all
earlier_after s (Flush (Err (FlushNo.Spent counter))) all = all
earlier_after s (RollbackPut token true) all = numbered-without s.txn token.number s.opened all
earlier_after s (RollbackPut token false) all = all
earlier_after s (RollbackTake token true) all = numbered-without s.txn token.number s.opened all
earlier_after s (RollbackTake token false) all = all
earlier_after s (Checkpoint (Ok done)) all = all
earlier_after s (Checkpoint (Err CheckNo.CheckFault)) all = all
earlier_after s (Checkpoint (Err CheckNo.DiskFault)) all = all
earlier_after s (Checkpoint (Err CheckNo.Broken)) all = all
earlier_after s (Checkpoint (Err (CheckNo.Spent counter))) all = all
earlier_after s (Prune reply) all = all
earlier_after s (Reopen (Ok r)) all = tt
earlier_after s (Reopen (Err e)) all = all

-- after a history open transactions still have earlier numbers
pub earlier_run : (s : State) (h : List Step) → AreEarlier s → AreEarlier (state_after s h)
earlier_run s [] all = all
earlier_run s (step ∷ h) all = earlier_run (after s step.call) h (earlier_after s step.call all)
