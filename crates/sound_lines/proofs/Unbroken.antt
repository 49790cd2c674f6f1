-- A channel is never broken where no call broke it, and only a broken one is reopened.
use Rattle.std.proofs.Common.{◌≡◌, ◌++◌, ◌∷◌, [], ℕ, List, Option, Some, None, Ok, Err, Bool, true, false, cond, refl, sym, ◌∙◌, ap, subst, append_assoc}
use Rattle.std.specs.List.{AllByRecursion}
use Rattle.std.proofs.lemmas.List.{append-nil}
use mathlib.Core.List.{IsPrefix}
use Rattle.event_core.specs.Content.{Content}
use Rattle.event_core.specs.declared.journal.Entry.{Entry}
use Rattle.event_core.specs.declared.journal.Entry.TheVariants.{Puts, Takes}
use Rattle.channel_face.specs.History.{Opening, Step, IsRun, opening, state_after}
use Rattle.channel_face.specs.Machine.{State, Rules, Call, BeginPut, BeginTake, Put, Take, StagePut, StageTake, Flush, RollbackPut, RollbackTake, Checkpoint, Prune, Reopen, Admits, after, entry_of, puts_of, takes_of, free, settle_if, stage, close, add_put, add_take}
use Rattle.channel_face.specs.declared.replies.CheckRefused.TheVariants as CheckNo
use Rattle.channel_face.specs.declared.replies.FlushRefused.TheVariants as FlushNo
use Rattle.channel_face.specs.declared.replies.Kind.TheVariants.{File as OnFile, Memory as InMemory}
use Rattle.channel_face.specs.declared.replies.PutRefused.TheVariants as PutNo
use Rattle.channel_face.specs.declared.replies.TakeRefused.TheVariants as TakeNo
use Rattle.channel_face.proofs.Adding.{state-push}
use Rattle.sound_lines.specs.Undisturbed.{AreFair, IsFair, IsNeverBroken}
use Rattle.sound_lines.proofs.Course.{front_of}
use Rattle.sound_lines.proofs.Growing.{IsNoReopen, grows}

-- the call does not break the channel
abbrev pub BreaksNone : Call → Type 0
BreaksNone (Put token event (Err PutNo.DiskFault)) = ⊥
BreaksNone (Take token (Err TakeNo.DiskFault)) = ⊥
BreaksNone (Flush (Err FlushNo.DiskFault)) = ⊥
BreaksNone (Checkpoint (Err CheckNo.DiskFault)) = ⊥
BreaksNone call = Unit {0}

settled_if : (b : Bool) (s : State) → (settle_if b s).broken ≡ s.broken
settled_if true s = refl
settled_if false s = refl

put_whole : (s : State) (number : ℕ) (puts : Option (List Content)) (event : Content) → (add_put s number puts event).broken ≡ s.broken
put_whole s number None event = refl
put_whole s number (Some events) event = refl

take_whole : (s : State) (number : ℕ) (takes : Option (List ℕ)) (items : List (ℕ × Content)) → (add_take s number takes items).broken ≡ s.broken
take_whole s number None items = refl
take_whole s number (Some numbers) [] = refl
take_whole s number (Some numbers) (item ∷ items) = refl

stage_whole : (s : State) (number : ℕ) (entry : Option Entry) → (stage number entry s).broken ≡ s.broken
stage_whole s number None = refl
stage_whole s number (Some (Puts [])) = refl
stage_whole s number (Some (Takes [])) = refl
stage_whole s number (Some (Puts (e ∷ es))) = refl
stage_whole s number (Some (Takes (n ∷ ns))) = refl

close_whole : (s : State) (number : ℕ) (ended : Bool) → (cond ended (close number s) s).broken ≡ s.broken
close_whole s number true = refl
close_whole s number false = refl

-- such a call leaves it whole
same_whole : (s : State) (call : Call) → BreaksNone call → IsNoReopen call → (after s call).broken ≡ s.broken
same_whole s (BeginPut (Ok token)) none still = refl
same_whole s (BeginPut (Err e)) none still = refl
same_whole s (BeginTake (Ok token)) none still = refl
same_whole s (BeginTake (Err e)) none still = refl
same_whole s (Put token event (Ok done)) none still = put_whole (settle_if done.spilled s) token.number (puts_of s token) event ∙ settled_if done.spilled s
same_whole s (Put token event (Err PutNo.DiskFault)) none still = absurd none
same_whole s (Put token event (Err PutNo.Stale)) none still = refl
same_whole s (Put token event (Err PutNo.Broken)) none still = refl
same_whole s (Put token event (Err (PutNo.Spent counter))) none still = refl
same_whole s (Put token event (Err (PutNo.TxnFull many))) none still = refl
same_whole s (Put token event (Err (PutNo.TooLarge size))) none still = refl
same_whole s (Put token event (Err (PutNo.Full many))) none still = refl
same_whole s (Put token event (Err PutNo.NoMemory)) none still = refl
same_whole s (Take token (Ok taken)) none still = take_whole (settle_if taken.spilled s) token.number (takes_of s token) (free s) ∙ settled_if taken.spilled s
same_whole s (Take token (Err TakeNo.DiskFault)) none still = absurd none
same_whole s (Take token (Err TakeNo.Stale)) none still = refl
same_whole s (Take token (Err TakeNo.Broken)) none still = refl
same_whole s (Take token (Err (TakeNo.Spent counter))) none still = refl
same_whole s (Take token (Err (TakeNo.TxnFull many))) none still = refl
same_whole s (Take token (Err TakeNo.ReadFault)) none still = refl
same_whole s (Take token (Err (TakeNo.Damaged kept given))) none still = refl
same_whole s (Take token (Err TakeNo.NoMemory)) none still = refl
same_whole s (StagePut token (Ok given)) none still = stage_whole s token.number (entry_of token.number s.opened)
same_whole s (StagePut token (Err cause)) none still = refl
same_whole s (StageTake token (Ok given)) none still = stage_whole s token.number (entry_of token.number s.opened)
same_whole s (StageTake token (Err cause)) none still = refl
same_whole s (Flush (Ok done)) none still = refl
same_whole s (Flush (Err FlushNo.Broken)) none still = refl
same_whole s (Flush (Err FlushNo.DiskFault)) none still = absurd none
same_whole s (Flush (Err (FlushNo.Spent counter))) none still = refl
same_whole s (RollbackPut token ended) none still = close_whole s token.number ended
same_whole s (RollbackTake token ended) none still = close_whole s token.number ended
same_whole s (Checkpoint (Ok done)) none still = refl
same_whole s (Checkpoint (Err CheckNo.CheckFault)) none still = refl
same_whole s (Checkpoint (Err CheckNo.DiskFault)) none still = absurd none
same_whole s (Checkpoint (Err CheckNo.Broken)) none still = refl
same_whole s (Checkpoint (Err (CheckNo.Spent counter))) none still = refl
same_whole s (Prune reply) none still = refl
same_whole s (Reopen reply) none still = absurd still

no_break : true ≡ false → ⊥
no_break is = cc

-- a fair call on a whole channel reopens nothing
still_of : (s : State) (front : List Step) (pass : ℕ) (call : Call) → s.broken ≡ false → IsFair s front pass call → IsNoReopen call
still_of s front pass (BeginPut reply) whole fair = tt
still_of s front pass (BeginTake reply) whole fair = tt
still_of s front pass (Put token event reply) whole fair = tt
still_of s front pass (Take token reply) whole fair = tt
still_of s front pass (StagePut token reply) whole fair = tt
still_of s front pass (StageTake token reply) whole fair = tt
still_of s front pass (Flush reply) whole fair = tt
still_of s front pass (RollbackPut token ended) whole fair = tt
still_of s front pass (RollbackTake token ended) whole fair = tt
still_of s front pass (Checkpoint reply) whole fair = tt
still_of s front pass (Prune reply) whole fair = tt
still_of s front pass (Reopen reply) whole fair = no_break (sym fair ∙ whole)

module _ (start : Opening) (all : List Step) (fair : AreFair start all) where
  unbroken_along : (front more : List Step) → IsPrefix (front ++ more) all → AllByRecursion (λ (step : Step). BreaksNone step.call) more → (state_after (opening start) front).broken ≡ false
      → (state_after (opening start) (front ++ more)).broken ≡ false
  unbroken_along front [] p none whole = subst (λ (l : List Step). (state_after (opening start) l).broken ≡ false) (sym (append-nil front)) whole
  unbroken_along front (step ∷ more) p none whole =
      let next = front ++ step ∷ [] in
      let as_next : next ++ more ≡ front ++ step ∷ more = append_assoc front (step ∷ []) more in
      let q : IsPrefix (next ++ more) all = subst (λ (l : List Step). IsPrefix l all) (sym as_next) p in
      let s = state_after (opening start) front in
      let still = still_of s front step.pass step.call whole (fair front step (front_of next more all q)) in
      let then : (state_after (opening start) next).broken ≡ false = ap (λ (t : State). t.broken) (state-push (opening start) front step) ∙ same_whole s step.call none.0 still ∙ whole in
      subst (λ (l : List Step). (state_after (opening start) l).broken ≡ false) as_next (unbroken_along next more q none.1 then)

  front_none : (a b : List Step) → AllByRecursion (λ (step : Step). BreaksNone step.call) (a ++ b) → AllByRecursion (λ (step : Step). BreaksNone step.call) a
  front_none [] b none = tt
  front_none (x ∷ a) b none = (none.0, front_none a b none.1)

  -- where no call breaks it
  pub never_broken : AllByRecursion (λ (step : Step). BreaksNone step.call) all → IsNeverBroken start all
  never_broken none front p = unbroken_along [] front p (front_none front p.0 (subst (λ (l : List Step). AllByRecursion (λ (step : Step). BreaksNone step.call) l) (sym p.1) none)) refl

-- ---- in memory

not_on_disk : InMemory ≡ OnFile → ⊥
not_on_disk is = cc

memory_call : (tells : Bool) (s : State) (call : Call) → s.rules.kind ≡ InMemory → Admits tells s call → BreaksNone call × IsNoReopen call
memory_call tells s (BeginPut reply) kind may = (tt, tt)
memory_call tells s (BeginTake reply) kind may = (tt, tt)
memory_call tells s (Put token event (Ok done)) kind may = (tt, tt)
memory_call tells s (Put token event (Err PutNo.DiskFault)) kind may = absurd (not_on_disk (sym kind ∙ may.1))
memory_call tells s (Put token event (Err PutNo.Stale)) kind may = (tt, tt)
memory_call tells s (Put token event (Err PutNo.Broken)) kind may = (tt, tt)
memory_call tells s (Put token event (Err (PutNo.Spent counter))) kind may = (tt, tt)
memory_call tells s (Put token event (Err (PutNo.TxnFull many))) kind may = (tt, tt)
memory_call tells s (Put token event (Err (PutNo.TooLarge size))) kind may = (tt, tt)
memory_call tells s (Put token event (Err (PutNo.Full many))) kind may = (tt, tt)
memory_call tells s (Put token event (Err PutNo.NoMemory)) kind may = (tt, tt)
memory_call tells s (Take token (Ok taken)) kind may = (tt, tt)
memory_call tells s (Take token (Err TakeNo.DiskFault)) kind may = absurd (not_on_disk (sym kind ∙ may.1))
memory_call tells s (Take token (Err TakeNo.Stale)) kind may = (tt, tt)
memory_call tells s (Take token (Err TakeNo.Broken)) kind may = (tt, tt)
memory_call tells s (Take token (Err (TakeNo.Spent counter))) kind may = (tt, tt)
memory_call tells s (Take token (Err (TakeNo.TxnFull many))) kind may = (tt, tt)
memory_call tells s (Take token (Err TakeNo.ReadFault)) kind may = (tt, tt)
memory_call tells s (Take token (Err (TakeNo.Damaged kept given))) kind may = (tt, tt)
memory_call tells s (Take token (Err TakeNo.NoMemory)) kind may = (tt, tt)
memory_call tells s (StagePut token reply) kind may = (tt, tt)
memory_call tells s (StageTake token reply) kind may = (tt, tt)
memory_call tells s (Flush (Ok done)) kind may = (tt, tt)
memory_call tells s (Flush (Err FlushNo.Broken)) kind may = (tt, tt)
memory_call tells s (Flush (Err FlushNo.DiskFault)) kind may = absurd (not_on_disk (sym kind ∙ may.1))
memory_call tells s (Flush (Err (FlushNo.Spent counter))) kind may = (tt, tt)
memory_call tells s (RollbackPut token ended) kind may = (tt, tt)
memory_call tells s (RollbackTake token ended) kind may = (tt, tt)
memory_call tells s (Checkpoint reply) kind may = absurd (not_on_disk (sym kind ∙ may.1))
memory_call tells s (Prune reply) kind may = (tt, tt)
memory_call tells s (Reopen reply) kind may = absurd (not_on_disk (sym kind ∙ may.1))

-- no call breaks a channel in memory
pub memory_breaks_none : (tells : Bool) (s : State) (h : List Step) → s.rules.kind ≡ InMemory → IsRun tells s h → AllByRecursion (λ (step : Step). BreaksNone step.call) h
memory_breaks_none tells s [] kind run = tt
memory_breaks_none tells s (step ∷ h) kind run =
    let one = memory_call tells s step.call kind run.0 in
    (one.0, memory_breaks_none tells (after s step.call) h (ap (λ (r : Rules). r.kind) (grows s step.call one.1).rules ∙ kind) run.1)
