-- A channel without events stays so while nobody puts.
use Rattle.std.proofs.Common.{◌≡◌, ◌∙◌, ◌==◌, ◌++◌, ℕ, zero, suc, List, [], ◌∷◌, take, Bool, true, false, cond, Option, Some, None, Result, Ok, Err, refl, ap, true≢false}
use Rattle.std.specs.List.{AllByRecursion}
use Rattle.event_core.specs.Content.{Content}
use Rattle.event_core.specs.Journal.{numbered, put_events, taken_numbers, without}
use Rattle.event_core.specs.declared.journal.Entry.{Entry}
use Rattle.event_core.specs.declared.journal.Entry.TheVariants.{Puts, Takes}
use Rattle.channel_face.specs.Token.{Token}
use Rattle.channel_face.specs.History.{IsRun, Step, state_after}
use Rattle.channel_face.specs.Machine.{Admits, BeginPut, BeginTake, Call, Checkpoint, Flush, Front, Kept, MayKeep, Prune, Put, Read, Reopen, RollbackPut, RollbackTake, StagePut, StageTake, State, Take, add_take, after, after_take, as_takes, close, entry_of, free, kept_base, settle, settle_if, stage, stage_take_refusal, takes_of}
use Rattle.channel_face.specs.declared.replies.CheckRefused.TheVariants as CheckNo
use Rattle.channel_face.specs.declared.replies.FlushRefused.TheVariants as FlushNo
use Rattle.channel_face.specs.declared.replies.Taken.{Taken}
use Rattle.channel_face.specs.declared.replies.TakeRefused.{TakeRefused}
use Rattle.channel_face.specs.declared.replies.TakeRefused.TheVariants as TakeNo
use Rattle.agent_run.specs.DrainedTold.{IsNoPut}

-- no event is left, and none is staged
pub record IsBare (s : State) : Type 0 where
  pub items : s.items ≡ []
  pub staged : put_events s.staged ≡ []

puts_push : (l : List Entry) (numbers : List ℕ) → put_events (l ++ Takes numbers ∷ []) ≡ put_events l
puts_push [] numbers = refl
puts_push (Puts events ∷ l) numbers = ap (λ (es : List Content). events ++ es) (puts_push l numbers)
puts_push (Takes taken ∷ l) numbers = puts_push l numbers

none_first : (a b : List Content) → a ++ b ≡ [] → (a ≡ []) × (b ≡ [])
none_first [] b none = (refl, none)
none_first (e ∷ a) b none = absurd (cc)

puts_take : (k : ℕ) (l : List Entry) → put_events l ≡ [] → put_events (take k l) ≡ []
puts_take zero l none = refl
puts_take (suc k) [] none = refl
puts_take (suc k) (Puts events ∷ l) none =
    let parts = none_first events (put_events l) none in
    (λ i. parts.0 i ++ put_events (take k l)) ∙ puts_take k l parts.1
puts_take (suc k) (Takes numbers ∷ l) none = puts_take k l none

left_bare : (s : State) (l : List Entry) → s.items ≡ [] → put_events l ≡ [] → without (taken_numbers l) (s.items ++ numbered s.first (put_events l)) ≡ []
left_bare s l items none = λ i. without (taken_numbers l) (items i ++ numbered s.first (none i))

settle_bare : (s : State) → IsBare s → IsBare (settle s)
settle_bare s bare = record { items = left_bare s s.staged bare.items bare.staged; staged = refl }

settle_if_bare : (spilled : Bool) (s : State) → IsBare s → IsBare (settle_if spilled s)
settle_if_bare true s bare = settle_bare s bare
settle_if_bare false s bare = bare

add_take_bare : (s : State) (number : ℕ) (takes : Option (List ℕ)) (items : List (ℕ × Content)) → IsBare s → IsBare (add_take s number takes items)
add_take_bare s number None items bare = bare
add_take_bare s number (Some numbers) [] bare = bare
add_take_bare s number (Some numbers) (item ∷ items) bare = record { items = bare.items; staged = bare.staged }

take_bare : (s : State) (token : Token) (takes : Option (List ℕ)) (items : List (ℕ × Content)) (reply : Result Taken TakeRefused) → IsBare s → IsBare (after_take s token takes items reply)
take_bare s token takes items (Ok taken) bare = add_take_bare (settle_if taken.spilled s) token.number takes items (settle_if_bare taken.spilled s bare)
take_bare s token takes items (Err TakeNo.DiskFault) bare = record { items = bare.items; staged = bare.staged }
take_bare s token takes items (Err TakeNo.Stale) bare = bare
take_bare s token takes items (Err TakeNo.Broken) bare = bare
take_bare s token takes items (Err (TakeNo.Spent counter)) bare = bare
take_bare s token takes items (Err (TakeNo.TxnFull count)) bare = bare
take_bare s token takes items (Err TakeNo.ReadFault) bare = bare
take_bare s token takes items (Err (TakeNo.Damaged kept found)) bare = bare
take_bare s token takes items (Err TakeNo.NoMemory) bare = bare

stage_bare : (s : State) (number : ℕ) (entry : Option Entry) (mine : Bool) → stage_take_refusal s (cond mine (as_takes entry) None) ≡ None → IsBare s → IsBare (stage number entry s)
stage_bare s number entry false none bare = absurd (cc)
stage_bare s number None true none bare = absurd (cc)
stage_bare s number (Some (Puts events)) true none bare = absurd (cc)
stage_bare s number (Some (Takes [])) true none bare = record { items = bare.items; staged = bare.staged }
stage_bare s number (Some (Takes (n ∷ numbers))) true none bare = record { items = bare.items; staged = puts_push s.staged (n ∷ numbers) ∙ bare.staged }

close_if_bare : (s : State) (number : ℕ) (ended : Bool) → IsBare s → IsBare (cond ended (close number s) s)
close_if_bare s number true bare = record { items = bare.items; staged = bare.staged }
close_if_bare s number false bare = bare

kept_bare : (s : State) (kept : Kept) → MayKeep true s kept → IsBare s → (kept_base s kept).items ≡ []
kept_bare s (Front k) may bare = left_bare s (take k s.staged) bare.items (puts_take k s.staged bare.staged)
kept_bare s (Read base) may bare = absurd (true≢false may.0)

after_bare : (s : State) (call : Call) → IsNoPut call → Admits true s call → IsBare s → IsBare (after s call)
after_bare s (BeginPut reply) idle may bare = absurd idle
after_bare s (BeginTake (Ok token)) idle may bare = record { items = bare.items; staged = bare.staged }
after_bare s (BeginTake (Err cause)) idle may bare = bare
after_bare s (Put token event reply) idle may bare = absurd idle
after_bare s (Take token reply) idle may bare = take_bare s token (takes_of s token) (free s) reply bare
after_bare s (StagePut token reply) idle may bare = absurd idle
after_bare s (StageTake token (Ok given)) idle may bare = stage_bare s token.number (entry_of token.number s.opened) (token.life == s.life) may.0 bare
after_bare s (StageTake token (Err cause)) idle may bare = bare
after_bare s (Flush (Ok done)) idle may bare = settle_bare s bare
after_bare s (Flush (Err FlushNo.Broken)) idle may bare = bare
after_bare s (Flush (Err FlushNo.DiskFault)) idle may bare = record { items = bare.items; staged = bare.staged }
after_bare s (Flush (Err (FlushNo.Spent counter))) idle may bare = bare
after_bare s (RollbackPut token ended) idle may bare = close_if_bare s token.number ended bare
after_bare s (RollbackTake token ended) idle may bare = close_if_bare s token.number ended bare
after_bare s (Checkpoint (Ok done)) idle may bare = settle_bare s bare
after_bare s (Checkpoint (Err CheckNo.Broken)) idle may bare = bare
after_bare s (Checkpoint (Err (CheckNo.Spent counter))) idle may bare = bare
after_bare s (Checkpoint (Err CheckNo.DiskFault)) idle may bare = record { items = bare.items; staged = bare.staged }
after_bare s (Checkpoint (Err CheckNo.CheckFault)) idle may bare = settle_bare s bare
after_bare s (Prune reply) idle may bare = bare
after_bare s (Reopen (Ok r)) idle may bare = record { items = kept_bare s r.kept may.0.1 bare; staged = refl }
after_bare s (Reopen (Err cause)) idle may bare = record { items = bare.items; staged = bare.staged }

-- So it stays over calls that are no puts, where the disk shows its contents.
pub stays_bare : (s : State) (h : List Step) → AllByRecursion (λ (step : Step). IsNoPut step.call) h → IsRun true s h → IsBare s → IsBare (state_after s h)
stays_bare s [] none run bare = bare
stays_bare s (step ∷ h) none run bare = stays_bare (after s step.call) h none.1 run.1 (after_bare s step.call none.0 run.0 bare)
