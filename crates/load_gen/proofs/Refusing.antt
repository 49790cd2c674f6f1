-- Why a file channel that has room for a run's events, and that nobody else calls, refuses one of its calls.
use Rattle.std.proofs.Common.{◌≡◌, ◌+◌, ◌-◌, ◌^◌, ◌++◌, ◌∷◌, [], ℕ, List, length, Option, Some, None, Ok, Err, Bool, true, false, nat_lt, if◌then◌else◌, refl, sym, ◌∙◌, ap, subst, arith}
use Rattle.std.proofs.lemmas.Bool.Decides.{nat_tests}
use Rattle.event_core.specs.Content.{Content}
use Rattle.channel_face.specs.Token.{Token}
use Rattle.channel_face.specs.Faces.{is_spent_begin, is_spent_put, is_spent_stage, is_spent_take}
use Rattle.channel_face.specs.Keeps.{is_spent_check, is_spent_prune}
use Rattle.channel_face.specs.Machine.{State, Call, Admits, BeginPut, BeginTake, Checkpoint, Flush, Prune, Put, Reopen, RollbackPut, RollbackTake, StagePut, StageTake, Take, put_refusal, puts_of, stage_put_refusal, stage_take_refusal, take_refusal, takes_of, ticket, next_number}
use Rattle.channel_face.specs.declared.replies.BeginRefused.{BeginRefused}
use Rattle.channel_face.specs.declared.replies.BeginRefused.TheVariants as BeginNo
use Rattle.channel_face.specs.declared.replies.CheckRefused.{CheckRefused}
use Rattle.channel_face.specs.declared.replies.CheckRefused.TheVariants as CheckNo
use Rattle.channel_face.specs.declared.replies.Counter.TheVariants.{Number}
use Rattle.channel_face.specs.declared.replies.FaceRefused.{FaceRefused}
use Rattle.channel_face.specs.declared.replies.FaceRefused.TheVariants as Face
use Rattle.channel_face.specs.declared.replies.FlushRefused.{FlushRefused}
use Rattle.channel_face.specs.declared.replies.FlushRefused.TheVariants as FlushNo
use Rattle.channel_face.specs.declared.replies.Kind.TheVariants.{File as OnFile}
use Rattle.channel_face.specs.declared.replies.PruneRefused.{PruneRefused}
use Rattle.channel_face.specs.declared.replies.PruneRefused.TheVariants as PruneNo
use Rattle.channel_face.specs.declared.replies.PutRefused.{PutRefused}
use Rattle.channel_face.specs.declared.replies.PutRefused.TheVariants as PutNo
use Rattle.channel_face.specs.declared.replies.StageCause.{StageCause}
use Rattle.channel_face.specs.declared.replies.StageCause.TheVariants as StageNo
use Rattle.channel_face.specs.declared.replies.TakeRefused.{TakeRefused}
use Rattle.channel_face.specs.declared.replies.TakeRefused.TheVariants as TakeNo
use Rattle.load_gen.specs.Calls.{IsCalled, IsRefused, RollsBack}
use Rattle.load_gen.specs.States.{IsOwnCause}
use Rattle.load_gen.specs.declared.refused.LoadRefused.{LoadRefused}
use Rattle.load_gen.specs.declared.refused.LoadRefused.TheVariants as load
use Rattle.load_gen.proofs.Walking.{AdmitsAll, IsReady, after_all}

-- the refusal that was made
made_first : (tells : Bool) (s : State) (call : Call) (failed back : List Call) → failed ≡ call ∷ [] → AdmitsAll tells s (failed ++ back) → Admits tells s call
made_first tells s call failed back is admits = (subst (λ (l : List Call). AdmitsAll tells s (l ++ back)) is admits).0

begin_put : (tells : Bool) (seen : ℕ) (s : State) (failed back : List Call) (why : BeginRefused) → (s.broken ≡ false) × (s.opened ≡ []) → AdmitsAll tells s (failed ++ back) → IsCalled seen (is_spent_begin (Err why)) (BeginPut (Err why)) failed → IsOwnCause (load.Face (Face.Begin why))
begin_put tells seen s failed back BeginNo.Broken ready admits made = absurd (let e = made_first tells s (BeginPut (Err BeginNo.Broken)) failed back made admits in let w = ready.0 in let o : length s.opened ≡ 0 = ap length ready.1 in grind (arith, nat_tests))
begin_put tells seen s failed back (BeginNo.TooManyOpen n) ready admits made = absurd (let e = made_first tells s (BeginPut (Err (BeginNo.TooManyOpen n))) failed back made admits in let w = ready.0 in let o : length s.opened ≡ 0 = ap length ready.1 in grind (arith, nat_tests))
begin_put tells seen s failed back (BeginNo.Spent counter) ready admits made = tt
begin_put tells seen s failed back BeginNo.NoMemory ready admits made = tt

begin_take : (tells : Bool) (seen : ℕ) (s : State) (failed back : List Call) (why : BeginRefused) → (s.broken ≡ false) × (s.opened ≡ []) → AdmitsAll tells s (failed ++ back) → IsCalled seen (is_spent_begin (Err why)) (BeginTake (Err why)) failed → IsOwnCause (load.Face (Face.Begin why))
begin_take tells seen s failed back BeginNo.Broken ready admits made = absurd (let e = made_first tells s (BeginTake (Err BeginNo.Broken)) failed back made admits in let w = ready.0 in let o : length s.opened ≡ 0 = ap length ready.1 in grind (arith, nat_tests))
begin_take tells seen s failed back (BeginNo.TooManyOpen n) ready admits made = absurd (let e = made_first tells s (BeginTake (Err (BeginNo.TooManyOpen n))) failed back made admits in let w = ready.0 in let o : length s.opened ≡ 0 = ap length ready.1 in grind (arith, nat_tests))
begin_take tells seen s failed back (BeginNo.Spent counter) ready admits made = tt
begin_take tells seen s failed back BeginNo.NoMemory ready admits made = tt

no_put : (tells : Bool) (s : State) (token : Token) (e : Content) (events : List Content) (why : PutRefused) → puts_of s token ≡ Some events → put_refusal s (Some events) e ≡ None → put_refusal s (puts_of s token) e ≡ Some why → ⊥
no_put tells s token e events why list none some = let is : None ≡ Some why = sym none ∙ ap (λ (l : Option (List Content)). put_refusal s l e) (sym list) ∙ some in cc

put_own : (tells : Bool) (seen : ℕ) (s : State) (token : Token) (e : Content) (failed back : List Call) (why : PutRefused) → (events : List Content) × (puts_of s token ≡ Some events) × (put_refusal s (Some events) e ≡ None) → AdmitsAll tells s (failed ++ back) → IsCalled seen (is_spent_put (Err why)) (Put token e (Err why)) failed → IsOwnCause (load.Face (Face.Put why))
put_own tells seen s token e failed back PutNo.Stale ready admits made = absurd (no_put tells s token e ready.0 PutNo.Stale ready.1 ready.2 ((made_first tells s (Put token e (Err PutNo.Stale)) failed back made admits)))
put_own tells seen s token e failed back PutNo.Broken ready admits made = absurd (no_put tells s token e ready.0 PutNo.Broken ready.1 ready.2 ((made_first tells s (Put token e (Err PutNo.Broken)) failed back made admits)))
put_own tells seen s token e failed back (PutNo.TxnFull n) ready admits made = absurd (no_put tells s token e ready.0 (PutNo.TxnFull n) ready.1 ready.2 ((made_first tells s (Put token e (Err (PutNo.TxnFull n))) failed back made admits)))
put_own tells seen s token e failed back (PutNo.TooLarge n) ready admits made = absurd (no_put tells s token e ready.0 (PutNo.TooLarge n) ready.1 ready.2 ((made_first tells s (Put token e (Err (PutNo.TooLarge n))) failed back made admits)))
put_own tells seen s token e failed back (PutNo.Full n) ready admits made = absurd (no_put tells s token e ready.0 (PutNo.Full n) ready.1 ready.2 ((made_first tells s (Put token e (Err (PutNo.Full n))) failed back made admits)))
put_own tells seen s token e failed back (PutNo.Spent counter) ready admits made = tt
put_own tells seen s token e failed back PutNo.DiskFault ready admits made = tt
put_own tells seen s token e failed back PutNo.NoMemory ready admits made = tt

no_take : (s : State) (token : Token) (numbers : List ℕ) (why : TakeRefused) → takes_of s token ≡ Some numbers → take_refusal s (Some numbers) ≡ None → take_refusal s (takes_of s token) ≡ Some why → ⊥
no_take s token numbers why list none some = let is : None ≡ Some why = sym none ∙ ap (take_refusal s) (sym list) ∙ some in cc

take_own : (tells : Bool) (seen : ℕ) (s : State) (token : Token) (failed back : List Call) (why : TakeRefused) → (numbers : List ℕ) × (takes_of s token ≡ Some numbers) × (take_refusal s (Some numbers) ≡ None) → AdmitsAll tells s (failed ++ back) → IsCalled seen (is_spent_take (Err why)) (Take token (Err why)) failed → IsOwnCause (load.Face (Face.Take why))
take_own tells seen s token failed back TakeNo.Stale ready admits made = absurd (no_take s token ready.0 TakeNo.Stale ready.1 ready.2 (made_first tells s (Take token (Err TakeNo.Stale)) failed back made admits))
take_own tells seen s token failed back TakeNo.Broken ready admits made = absurd (no_take s token ready.0 TakeNo.Broken ready.1 ready.2 (made_first tells s (Take token (Err TakeNo.Broken)) failed back made admits))
take_own tells seen s token failed back (TakeNo.TxnFull n) ready admits made = absurd (no_take s token ready.0 (TakeNo.TxnFull n) ready.1 ready.2 (made_first tells s (Take token (Err (TakeNo.TxnFull n))) failed back made admits))
take_own tells seen s token failed back (TakeNo.Spent counter) ready admits made = tt
take_own tells seen s token failed back TakeNo.ReadFault ready admits made = tt
take_own tells seen s token failed back (TakeNo.Damaged kept found) ready admits made = tt
take_own tells seen s token failed back TakeNo.DiskFault ready admits made = tt
take_own tells seen s token failed back TakeNo.NoMemory ready admits made = tt

-- a stage of puts on a file is refused for a number at its end alone
stage_asks : (s : State) (events : List Content) → s.broken ≡ false → s.rules.kind ≡ OnFile → stage_put_refusal s (Some events) ≡ (if nat_lt (2 ^ 64 - 1) (next_number s + length events) then Some (StageNo.Spent Number) else None)
stage_asks s events whole kind = rw (whole, kind) refl

by_number : (b : Bool) (why : StageCause) → (if b then Some (StageNo.Spent Number) else None) ≡ Some why → why ≡ StageNo.Spent Number
by_number true why is = cc
by_number false why is = absurd cc

stage_spent : (s : State) (token : Token) (events : List Content) (why : StageCause) → puts_of s token ≡ Some events → s.broken ≡ false → s.rules.kind ≡ OnFile → stage_put_refusal s (puts_of s token) ≡ Some why → why ≡ StageNo.Spent Number
stage_spent s token events why list whole kind some = by_number (nat_lt (2 ^ 64 - 1) (next_number s + length events)) why (sym (stage_asks s events whole kind) ∙ ap (stage_put_refusal s) (sym list) ∙ some)

stage_put_own : (tells : Bool) (seen : ℕ) (s : State) (token : Token) (failed back : List Call) (why : StageCause) → (events : List Content) × (puts_of s token ≡ Some events) × (s.broken ≡ false) × (s.rules.kind ≡ OnFile) → AdmitsAll tells s (failed ++ back) → IsCalled seen (is_spent_stage (Err why)) (StagePut token (Err why)) failed
    → IsOwnCause (load.Face (Face.Stage why))
stage_put_own tells seen s token failed back StageNo.Stale ready admits made = absurd (let is = stage_spent s token ready.0 StageNo.Stale ready.1 ready.2 ready.3 (made_first tells s (StagePut token (Err StageNo.Stale)) failed back made admits) in cc)
stage_put_own tells seen s token failed back StageNo.Broken ready admits made = absurd (let is = stage_spent s token ready.0 StageNo.Broken ready.1 ready.2 ready.3 (made_first tells s (StagePut token (Err StageNo.Broken)) failed back made admits) in cc)
stage_put_own tells seen s token failed back (StageNo.Full n) ready admits made = absurd (let is = stage_spent s token ready.0 (StageNo.Full n) ready.1 ready.2 ready.3 (made_first tells s (StagePut token (Err (StageNo.Full n))) failed back made admits) in cc)
stage_put_own tells seen s token failed back (StageNo.Spent counter) ready admits made = tt

no_stage : (s : State) (token : Token) (numbers : List ℕ) (why : StageCause) → takes_of s token ≡ Some numbers → s.broken ≡ false → stage_take_refusal s (takes_of s token) ≡ Some why → ⊥
no_stage s token numbers why list whole some =
    let none : stage_take_refusal s (Some numbers) ≡ None = rw whole refl in
    let is : None ≡ Some why = sym none ∙ ap (stage_take_refusal s) (sym list) ∙ some in
    cc

stage_take_own : (tells : Bool) (seen : ℕ) (s : State) (token : Token) (failed back : List Call) (why : StageCause) → (numbers : List ℕ) × (takes_of s token ≡ Some numbers) × (s.broken ≡ false) → AdmitsAll tells s (failed ++ back) → IsCalled seen (is_spent_stage (Err why)) (StageTake token (Err why)) failed → IsOwnCause (load.Face (Face.Stage why))
stage_take_own tells seen s token failed back StageNo.Stale ready admits made = absurd (no_stage s token ready.0 StageNo.Stale ready.1 ready.2 (made_first tells s (StageTake token (Err StageNo.Stale)) failed back made admits))
stage_take_own tells seen s token failed back StageNo.Broken ready admits made = absurd (no_stage s token ready.0 StageNo.Broken ready.1 ready.2 (made_first tells s (StageTake token (Err StageNo.Broken)) failed back made admits))
stage_take_own tells seen s token failed back (StageNo.Full n) ready admits made = absurd (no_stage s token ready.0 (StageNo.Full n) ready.1 ready.2 (made_first tells s (StageTake token (Err (StageNo.Full n))) failed back made admits))
stage_take_own tells seen s token failed back (StageNo.Spent counter) ready admits made = tt

-- a rollback whose token is not stale does not find it stale
no_stale : (tells : Bool) (s end : State) (token : Token) (failed back : List Call) (why : TakeRefused) → (numbers : List ℕ) × (takes_of s token ≡ Some numbers) → after_all s (failed ++ back) ≡ end → back ≡ [] → (failed ≡ []) × (takes_of end token ≡ None) → IsOwnCause (load.Face (Face.Take why))
no_stale tells s end token failed back why ready ends none stale =
    let same : s ≡ end = ap (after_all s) (λ i. sym stale.0 i ++ sym none i) ∙ ends in
    let is : None ≡ Some ready.0 = sym stale.1 ∙ ap (λ (x : State). takes_of x token) (sym same) ∙ ready.1 in
    absurd cc

-- a call of a transaction
own_face : (tells : Bool) (seen : ℕ) (s end : State) (next : Call) (why : FaceRefused) (failed back : List Call) → IsReady s next → AdmitsAll tells s (failed ++ back) → after_all s (failed ++ back) ≡ end → IsRefused seen end next (load.Face why) failed → RollsBack next end back → IsOwnCause (load.Face why)
own_face tells seen s end (BeginPut (Ok token)) (Face.Begin why) failed back ready admits ends refuses rolls = begin_put tells seen s failed back why ready admits refuses
own_face tells seen s end (BeginPut (Ok token)) (Face.Put why) failed back ready admits ends refuses rolls = absurd refuses
own_face tells seen s end (BeginPut (Ok token)) (Face.Take why) failed back ready admits ends refuses rolls = absurd refuses
own_face tells seen s end (BeginPut (Ok token)) (Face.Stage why) failed back ready admits ends refuses rolls = absurd refuses
own_face tells seen s end (BeginPut (Ok token)) Face.InDoubt failed back ready admits ends refuses rolls = absurd refuses
own_face tells seen s end (BeginPut (Err other)) why failed back ready admits ends refuses rolls = absurd refuses
own_face tells seen s end (BeginTake (Ok token)) (Face.Begin why) failed back ready admits ends refuses rolls = begin_take tells seen s failed back why ready admits refuses
own_face tells seen s end (BeginTake (Ok token)) (Face.Put why) failed back ready admits ends refuses rolls = absurd refuses
own_face tells seen s end (BeginTake (Ok token)) (Face.Take why) failed back ready admits ends refuses rolls = absurd refuses
own_face tells seen s end (BeginTake (Ok token)) (Face.Stage why) failed back ready admits ends refuses rolls = absurd refuses
own_face tells seen s end (BeginTake (Ok token)) Face.InDoubt failed back ready admits ends refuses rolls = absurd refuses
own_face tells seen s end (BeginTake (Err other)) why failed back ready admits ends refuses rolls = absurd refuses
own_face tells seen s end (Put token e (Ok done)) (Face.Begin why) failed back ready admits ends refuses rolls = absurd refuses
own_face tells seen s end (Put token e (Ok done)) (Face.Put why) failed back ready admits ends refuses rolls = put_own tells seen s token e failed back why ready admits refuses
own_face tells seen s end (Put token e (Ok done)) (Face.Take why) failed back ready admits ends refuses rolls = absurd refuses
own_face tells seen s end (Put token e (Ok done)) (Face.Stage why) failed back ready admits ends refuses rolls = absurd refuses
own_face tells seen s end (Put token e (Ok done)) Face.InDoubt failed back ready admits ends refuses rolls = absurd refuses
own_face tells seen s end (Put token e (Err other)) why failed back ready admits ends refuses rolls = absurd refuses
own_face tells seen s end (Take token (Ok taken)) (Face.Begin why) failed back ready admits ends refuses rolls = absurd refuses
own_face tells seen s end (Take token (Ok taken)) (Face.Put why) failed back ready admits ends refuses rolls = absurd refuses
own_face tells seen s end (Take token (Ok taken)) (Face.Take why) failed back ready admits ends refuses rolls = take_own tells seen s token failed back why ready admits refuses
own_face tells seen s end (Take token (Ok taken)) (Face.Stage why) failed back ready admits ends refuses rolls = absurd refuses
own_face tells seen s end (Take token (Ok taken)) Face.InDoubt failed back ready admits ends refuses rolls = absurd refuses
own_face tells seen s end (Take token (Err other)) why failed back ready admits ends refuses rolls = absurd refuses
own_face tells seen s end (StagePut token (Ok ticket)) (Face.Begin why) failed back ready admits ends refuses rolls = absurd refuses
own_face tells seen s end (StagePut token (Ok ticket)) (Face.Put why) failed back ready admits ends refuses rolls = absurd refuses
own_face tells seen s end (StagePut token (Ok ticket)) (Face.Take why) failed back ready admits ends refuses rolls = absurd refuses
own_face tells seen s end (StagePut token (Ok ticket)) (Face.Stage why) failed back ready admits ends refuses rolls = stage_put_own tells seen s token failed back why ready admits refuses
own_face tells seen s end (StagePut token (Ok ticket)) Face.InDoubt failed back ready admits ends refuses rolls = absurd refuses
own_face tells seen s end (StagePut token (Err other)) why failed back ready admits ends refuses rolls = absurd refuses
own_face tells seen s end (StageTake token (Ok ticket)) (Face.Begin why) failed back ready admits ends refuses rolls = absurd refuses
own_face tells seen s end (StageTake token (Ok ticket)) (Face.Put why) failed back ready admits ends refuses rolls = absurd refuses
own_face tells seen s end (StageTake token (Ok ticket)) (Face.Take why) failed back ready admits ends refuses rolls = absurd refuses
own_face tells seen s end (StageTake token (Ok ticket)) (Face.Stage why) failed back ready admits ends refuses rolls = stage_take_own tells seen s token failed back why ready admits refuses
own_face tells seen s end (StageTake token (Ok ticket)) Face.InDoubt failed back ready admits ends refuses rolls = absurd refuses
own_face tells seen s end (StageTake token (Err other)) why failed back ready admits ends refuses rolls = absurd refuses
own_face tells seen s end (Flush (Ok done)) (Face.Begin why) failed back ready admits ends refuses rolls = absurd refuses
own_face tells seen s end (Flush (Ok done)) (Face.Put why) failed back ready admits ends refuses rolls = absurd refuses
own_face tells seen s end (Flush (Ok done)) (Face.Take why) failed back ready admits ends refuses rolls = absurd refuses
own_face tells seen s end (Flush (Ok done)) (Face.Stage why) failed back ready admits ends refuses rolls = absurd refuses
own_face tells seen s end (Flush (Ok done)) Face.InDoubt failed back ready admits ends refuses rolls = tt
own_face tells seen s end (Flush (Err other)) why failed back ready admits ends refuses rolls = absurd refuses
own_face tells seen s end (RollbackTake token true) (Face.Begin why) failed back ready admits ends refuses rolls = absurd refuses
own_face tells seen s end (RollbackTake token true) (Face.Put why) failed back ready admits ends refuses rolls = absurd refuses
own_face tells seen s end (RollbackTake token true) (Face.Take TakeNo.Stale) failed back ready admits ends refuses rolls = no_stale tells s end token failed back TakeNo.Stale ready ends rolls refuses
own_face tells seen s end (RollbackTake token true) (Face.Take TakeNo.Broken) failed back ready admits ends refuses rolls = absurd refuses
own_face tells seen s end (RollbackTake token true) (Face.Take (TakeNo.Spent counter)) failed back ready admits ends refuses rolls = absurd refuses
own_face tells seen s end (RollbackTake token true) (Face.Take (TakeNo.TxnFull n)) failed back ready admits ends refuses rolls = absurd refuses
own_face tells seen s end (RollbackTake token true) (Face.Take TakeNo.ReadFault) failed back ready admits ends refuses rolls = absurd refuses
own_face tells seen s end (RollbackTake token true) (Face.Take (TakeNo.Damaged kept found)) failed back ready admits ends refuses rolls = absurd refuses
own_face tells seen s end (RollbackTake token true) (Face.Take TakeNo.NoMemory) failed back ready admits ends refuses rolls = absurd refuses
own_face tells seen s end (RollbackTake token true) (Face.Take TakeNo.DiskFault) failed back ready admits ends refuses rolls = absurd refuses
own_face tells seen s end (RollbackTake token true) (Face.Stage why) failed back ready admits ends refuses rolls = absurd refuses
own_face tells seen s end (RollbackTake token true) Face.InDoubt failed back ready admits ends refuses rolls = absurd refuses
own_face tells seen s end (RollbackTake token false) why failed back ready admits ends refuses rolls = absurd refuses
own_face tells seen s end (RollbackPut token ended) why failed back ready admits ends refuses rolls = absurd ready
own_face tells seen s end (Checkpoint (Ok done)) (Face.Begin why) failed back ready admits ends refuses rolls = absurd refuses
own_face tells seen s end (Checkpoint (Ok done)) (Face.Put why) failed back ready admits ends refuses rolls = absurd refuses
own_face tells seen s end (Checkpoint (Ok done)) (Face.Take why) failed back ready admits ends refuses rolls = absurd refuses
own_face tells seen s end (Checkpoint (Ok done)) (Face.Stage why) failed back ready admits ends refuses rolls = absurd refuses
own_face tells seen s end (Checkpoint (Ok done)) Face.InDoubt failed back ready admits ends refuses rolls = absurd refuses
own_face tells seen s end (Checkpoint (Err other)) why failed back ready admits ends refuses rolls = absurd refuses
own_face tells seen s end (Prune (Ok count)) (Face.Begin why) failed back ready admits ends refuses rolls = absurd refuses
own_face tells seen s end (Prune (Ok count)) (Face.Put why) failed back ready admits ends refuses rolls = absurd refuses
own_face tells seen s end (Prune (Ok count)) (Face.Take why) failed back ready admits ends refuses rolls = absurd refuses
own_face tells seen s end (Prune (Ok count)) (Face.Stage why) failed back ready admits ends refuses rolls = absurd refuses
own_face tells seen s end (Prune (Ok count)) Face.InDoubt failed back ready admits ends refuses rolls = absurd refuses
own_face tells seen s end (Prune (Err other)) why failed back ready admits ends refuses rolls = absurd refuses
own_face tells seen s end (Reopen reply) why failed back ready admits ends refuses rolls = absurd ready

-- a checkpoint
laid_own : (tells : Bool) (seen : ℕ) (s : State) (failed back : List Call) (why : CheckRefused) → s.broken ≡ false → AdmitsAll tells s (failed ++ back) → IsCalled seen (is_spent_check (Err why)) (Checkpoint (Err why)) failed → IsOwnCause (load.Check why)
laid_own tells seen s failed back CheckNo.Broken whole admits made = absurd (let no : s.broken ≡ true = (made_first tells s (Checkpoint (Err CheckNo.Broken)) failed back made admits).0 in let e : true ≡ false = sym no ∙ whole in cc)
laid_own tells seen s failed back (CheckNo.Spent counter) whole admits made = tt
laid_own tells seen s failed back CheckNo.DiskFault whole admits made = tt
laid_own tells seen s failed back CheckNo.CheckFault whole admits made = tt

own_check : (tells : Bool) (seen : ℕ) (s end : State) (next : Call) (why : CheckRefused) (failed back : List Call) → IsReady s next → AdmitsAll tells s (failed ++ back) → IsRefused seen end next (load.Check why) failed → IsOwnCause (load.Check why)
own_check tells seen s end (BeginPut (Ok done)) why failed back ready admits refuses = absurd refuses
own_check tells seen s end (BeginPut (Err other)) why failed back ready admits refuses = absurd refuses
own_check tells seen s end (BeginTake (Ok done)) why failed back ready admits refuses = absurd refuses
own_check tells seen s end (BeginTake (Err other)) why failed back ready admits refuses = absurd refuses
own_check tells seen s end (Put token e (Ok done)) why failed back ready admits refuses = absurd refuses
own_check tells seen s end (Put token e (Err other)) why failed back ready admits refuses = absurd refuses
own_check tells seen s end (Take token (Ok done)) why failed back ready admits refuses = absurd refuses
own_check tells seen s end (Take token (Err other)) why failed back ready admits refuses = absurd refuses
own_check tells seen s end (StagePut token (Ok done)) why failed back ready admits refuses = absurd refuses
own_check tells seen s end (StagePut token (Err other)) why failed back ready admits refuses = absurd refuses
own_check tells seen s end (StageTake token (Ok done)) why failed back ready admits refuses = absurd refuses
own_check tells seen s end (StageTake token (Err other)) why failed back ready admits refuses = absurd refuses
own_check tells seen s end (Flush (Ok done)) why failed back ready admits refuses = absurd refuses
own_check tells seen s end (Flush (Err other)) why failed back ready admits refuses = absurd refuses
own_check tells seen s end (RollbackTake token true) why failed back ready admits refuses = absurd refuses
own_check tells seen s end (RollbackTake token false) why failed back ready admits refuses = absurd refuses
own_check tells seen s end (Checkpoint (Ok done)) why failed back ready admits refuses = laid_own tells seen s failed back why ready admits refuses
own_check tells seen s end (Checkpoint (Err other)) why failed back ready admits refuses = absurd refuses
own_check tells seen s end (Prune (Ok done)) why failed back ready admits refuses = absurd refuses
own_check tells seen s end (Prune (Err other)) why failed back ready admits refuses = absurd refuses
own_check tells seen s end (RollbackPut token ended) why failed back ready admits refuses = absurd ready
own_check tells seen s end (Reopen reply) why failed back ready admits refuses = absurd ready

-- a removal of old files
pruned_own : (tells : Bool) (seen : ℕ) (s : State) (failed back : List Call) (why : PruneRefused) → s.broken ≡ false → AdmitsAll tells s (failed ++ back) → IsCalled seen (is_spent_prune (Err why)) (Prune (Err why)) failed → IsOwnCause (load.Prune why)
pruned_own tells seen s failed back PruneNo.Broken whole admits made = absurd (let no : s.broken ≡ true = (made_first tells s (Prune (Err PruneNo.Broken)) failed back made admits).0 in let e : true ≡ false = sym no ∙ whole in cc)
pruned_own tells seen s failed back (PruneNo.Spent counter) whole admits made = tt
pruned_own tells seen s failed back PruneNo.DiskFault whole admits made = tt

own_prune : (tells : Bool) (seen : ℕ) (s end : State) (next : Call) (why : PruneRefused) (failed back : List Call) → IsReady s next → AdmitsAll tells s (failed ++ back) → IsRefused seen end next (load.Prune why) failed → IsOwnCause (load.Prune why)
own_prune tells seen s end (BeginPut (Ok done)) why failed back ready admits refuses = absurd refuses
own_prune tells seen s end (BeginPut (Err other)) why failed back ready admits refuses = absurd refuses
own_prune tells seen s end (BeginTake (Ok done)) why failed back ready admits refuses = absurd refuses
own_prune tells seen s end (BeginTake (Err other)) why failed back ready admits refuses = absurd refuses
own_prune tells seen s end (Put token e (Ok done)) why failed back ready admits refuses = absurd refuses
own_prune tells seen s end (Put token e (Err other)) why failed back ready admits refuses = absurd refuses
own_prune tells seen s end (Take token (Ok done)) why failed back ready admits refuses = absurd refuses
own_prune tells seen s end (Take token (Err other)) why failed back ready admits refuses = absurd refuses
own_prune tells seen s end (StagePut token (Ok done)) why failed back ready admits refuses = absurd refuses
own_prune tells seen s end (StagePut token (Err other)) why failed back ready admits refuses = absurd refuses
own_prune tells seen s end (StageTake token (Ok done)) why failed back ready admits refuses = absurd refuses
own_prune tells seen s end (StageTake token (Err other)) why failed back ready admits refuses = absurd refuses
own_prune tells seen s end (Flush (Ok done)) why failed back ready admits refuses = absurd refuses
own_prune tells seen s end (Flush (Err other)) why failed back ready admits refuses = absurd refuses
own_prune tells seen s end (RollbackTake token true) why failed back ready admits refuses = absurd refuses
own_prune tells seen s end (RollbackTake token false) why failed back ready admits refuses = absurd refuses
own_prune tells seen s end (Checkpoint (Ok done)) why failed back ready admits refuses = absurd refuses
own_prune tells seen s end (Checkpoint (Err other)) why failed back ready admits refuses = absurd refuses
own_prune tells seen s end (Prune (Ok done)) why failed back ready admits refuses = pruned_own tells seen s failed back why ready admits refuses
own_prune tells seen s end (Prune (Err other)) why failed back ready admits refuses = absurd refuses
own_prune tells seen s end (RollbackPut token ended) why failed back ready admits refuses = absurd ready
own_prune tells seen s end (Reopen reply) why failed back ready admits refuses = absurd ready

-- A call that finds the channel ready is refused for no other cause.
pub own_cause : (tells : Bool) (seen : ℕ) (s end : State) (next : Call) (why : LoadRefused) (failed back : List Call) → IsReady s next → AdmitsAll tells s (failed ++ back) → after_all s (failed ++ back) ≡ end → IsRefused seen end next why failed → RollsBack next end back → IsOwnCause why
own_cause tells seen s end next (load.Face why) failed back ready admits ends refuses rolls = own_face tells seen s end next why failed back ready admits ends refuses rolls
own_cause tells seen s end next (load.Check why) failed back ready admits ends refuses rolls = own_check tells seen s end next why failed back ready admits refuses
own_cause tells seen s end next (load.Prune why) failed back ready admits ends refuses rolls = own_prune tells seen s end next why failed back ready admits refuses
own_cause tells seen s end next load.NoMemory failed back ready admits ends refuses rolls = tt

-- the cause of a flush that is refused is a fault of the disk
pub flush_fault : (tells : Bool) (s : State) (why : FlushRefused) (failed back : List Call) → s.broken ≡ false → failed ≡ Flush (Err why) ∷ [] → AdmitsAll tells s (failed ++ back) → why ≡ FlushNo.DiskFault
flush_fault tells s FlushNo.Broken failed back whole is admits = absurd (let no : s.broken ≡ true = made_first tells s (Flush (Err FlushNo.Broken)) failed back is admits in let e : true ≡ false = sym no ∙ whole in cc)
flush_fault tells s FlushNo.DiskFault failed back whole is admits = refl
flush_fault tells s (FlushNo.Spent counter) failed back whole is admits = absurd (made_first tells s (Flush (Err (FlushNo.Spent counter))) failed back is admits)
