-- A channel on a disk that counted no fault was broken by no call.
use Rattle.std.proofs.Common.{◌≡◌, ◌∷◌, [], ℕ, List, Option, Ok, Err, Bool, true, false, ◌||◌, refl, subst, arith}
use Rattle.std.specs.List.{AllByRecursion}
use Rattle.flume_host.specs.Causes.{Rose}
use Rattle.flume_host.specs.Told.{Told}
use Rattle.channel_face.specs.Counters.{Tally}
use Rattle.channel_face.specs.History.{Opening, Step}
use Rattle.channel_face.specs.Machine.{State, Call, BeginPut, BeginTake, Put, Take, StagePut, StageTake, Flush, RollbackPut, RollbackTake, Checkpoint, Prune, Reopen}
use Rattle.channel_face.specs.declared.replies.CheckRefused.TheVariants as CheckNo
use Rattle.channel_face.specs.declared.replies.FlushRefused.TheVariants as FlushNo
use Rattle.channel_face.specs.declared.replies.PutRefused.TheVariants as PutNo
use Rattle.channel_face.specs.declared.replies.TakeRefused.TheVariants as TakeNo
use Rattle.channel_lock.specs.Calls.{keep}
use Rattle.channel_writing.specs.Stands.{StandsBy, has_fault, is_fault}
use Rattle.shared_channel.specs.Counting.{counted_calls, is_counted}
use Rattle.sound_lines.proofs.Unbroken.{BreaksNone}

tt_ff : true ≡ false → ⊥
tt_ff is = cc

sound_call : (call : Call) → is_fault call ≡ false → BreaksNone call
sound_call (Put token event (Err PutNo.DiskFault)) is = tt_ff is
sound_call (Put token event (Err PutNo.Stale)) is = tt
sound_call (Put token event (Err PutNo.Broken)) is = tt
sound_call (Put token event (Err (PutNo.Spent counter))) is = tt
sound_call (Put token event (Err (PutNo.TxnFull many))) is = tt
sound_call (Put token event (Err (PutNo.TooLarge size))) is = tt
sound_call (Put token event (Err (PutNo.Full many))) is = tt
sound_call (Put token event (Err PutNo.NoMemory)) is = tt
sound_call (Put token event (Ok done)) is = tt
sound_call (Take token (Err TakeNo.DiskFault)) is = tt_ff is
sound_call (Take token (Err TakeNo.Stale)) is = tt
sound_call (Take token (Err TakeNo.Broken)) is = tt
sound_call (Take token (Err (TakeNo.Spent counter))) is = tt
sound_call (Take token (Err (TakeNo.TxnFull many))) is = tt
sound_call (Take token (Err TakeNo.ReadFault)) is = tt
sound_call (Take token (Err (TakeNo.Damaged kept given))) is = tt
sound_call (Take token (Err TakeNo.NoMemory)) is = tt
sound_call (Take token (Ok taken)) is = tt
sound_call (Flush (Err FlushNo.DiskFault)) is = tt_ff is
sound_call (Flush (Err FlushNo.Broken)) is = tt
sound_call (Flush (Err (FlushNo.Spent counter))) is = tt
sound_call (Flush (Ok done)) is = tt
sound_call (Checkpoint (Err CheckNo.DiskFault)) is = tt_ff is
sound_call (Checkpoint (Err CheckNo.CheckFault)) is = tt
sound_call (Checkpoint (Err CheckNo.Broken)) is = tt
sound_call (Checkpoint (Err (CheckNo.Spent counter))) is = tt
sound_call (Checkpoint (Ok done)) is = tt
sound_call (BeginPut reply) is = tt
sound_call (BeginTake reply) is = tt
sound_call (StagePut token reply) is = tt
sound_call (StageTake token reply) is = tt
sound_call (RollbackPut token ended) is = tt
sound_call (RollbackTake token ended) is = tt
sound_call (Prune reply) is = tt
sound_call (Reopen reply) is = tt

first_no : (a b : Bool) → a || b ≡ false → a ≡ false
first_no true b is = is
first_no false b is = refl

second_no : (a b : Bool) → a || b ≡ false → b ≡ false
second_no true b is = absurd (tt_ff is)
second_no false b is = is

abbrev pub NoneBreaks : List Step → Type 0
NoneBreaks h = AllByRecursion (λ (step : Step). BreaksNone step.call) h

sound_calls : (h : List Step) → has_fault h ≡ false → NoneBreaks h
sound_calls [] is = tt
sound_calls (step ∷ h) is = (sound_call step.call (first_no (is_fault step.call) (has_fault h) is), sound_calls h (second_no (is_fault step.call) (has_fault h) is))

keep_none : (b : Bool) (step : Step) (h : List Step) → BreaksNone step.call → NoneBreaks h → NoneBreaks (keep b step h)
keep_none true step h one none = (one, none)
keep_none false step h one none = none

counted_none : (h : List Step) → NoneBreaks h → NoneBreaks (counted_calls h)
counted_none [] none = tt
counted_none (step ∷ h) none = keep_none (is_counted step.call) step (counted_calls h) none.0 (counted_none h none.1)

-- a count that is 0 did not rise
not_rose : (before now : ℕ) → before ≡ 0 → now ≡ 0 → Rose before now → ⊥
not_rose before now first last rose = never (subst (λ (x : ℕ × ℕ). Rose x.0 x.1) (λ i. (first i, last i)) rose)
  where
    never : Rose 0 0 → ⊥
    never is = omega (arith, is)

-- The counted calls for which such a channel stands.
pub none_breaks : (IsState : State → Type 0) (told : Option Told) (faults : ℕ) (counts : Tally) (waits : ℕ) (start : Opening) (all h : List Step)
    → start.faults ≡ 0 → faults ≡ 0 → StandsBy IsState told faults counts waits start all → counted_calls all ≡ h → NoneBreaks h
none_breaks IsState told faults counts waits start all h first last stands is = subst NoneBreaks is (counted_none all (sound_calls all (by (has_fault all) refl)))
  where
    by : (b : Bool) → has_fault all ≡ b → has_fault all ≡ false
    by true is = absurd (not_rose start.faults faults first last (stands.causes is))
    by false is = is
