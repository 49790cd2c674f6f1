-- What a run of the generator did to a channel that nobody else called, and what its status says of it.
use Rattle.std.proofs.Common.{◌≡◌, ◌⊎◌, inl, inr, ◌<◌, ◌≤◌, ◌+◌, ◌^◌, ◌++◌, ◌∷◌, [], ℕ, zero, suc, List, length, Option, Result, Ok, Err, Bool, true, false, refl, sym, ◌∙◌, ap, subst, arith}
use Rattle.std.specs.Prelude.{◌||◌, String}
use Rattle.std.specs.Global.{Global}
use Rattle.flume_host.specs.Causes.{Rose}
use Rattle.flume_host.specs.Told.{Told}
use Rattle.atomic_table.specs.Seated.{TableId}
use Rattle.event_core.specs.Content.{Content}
use Rattle.channel_face.specs.Faces.{Own, is_spent_begin, is_spent_put, is_spent_stage, is_spent_take}
use Rattle.channel_face.specs.Keeps.{is_spent_check, is_spent_prune}
use Rattle.channel_face.specs.History.{IsRun, Opening, Step, opening, state_after}
use Rattle.channel_face.specs.Machine.{BeginPut, BeginTake, Call, Checkpoint, Flush, Prune, Put, Reopen, Rules, RollbackPut, RollbackTake, StagePut, StageTake, State, Take, after, is_some_of}
use Rattle.channel_face.specs.Token.{Token}
use Rattle.channel_face.specs.declared.replies.BeginRefused.TheVariants as BeginNo
use Rattle.channel_face.specs.declared.replies.CheckRefused.{CheckRefused}
use Rattle.channel_face.specs.declared.replies.CheckRefused.TheVariants as CheckNo
use Rattle.channel_face.specs.declared.replies.FaceRefused.{FaceRefused}
use Rattle.channel_face.specs.declared.replies.FaceRefused.TheVariants as face
use Rattle.channel_face.specs.declared.replies.FlushRefused.{FlushRefused}
use Rattle.channel_face.specs.declared.replies.FlushRefused.TheVariants as FlushNo
use Rattle.channel_face.specs.declared.replies.PruneRefused.{PruneRefused}
use Rattle.channel_face.specs.declared.replies.PruneRefused.TheVariants as PruneNo
use Rattle.channel_face.specs.declared.replies.PutRefused.TheVariants as PutNo
use Rattle.channel_face.specs.declared.replies.StageCause.TheVariants as StageNo
use Rattle.channel_face.specs.declared.replies.TakeRefused.TheVariants as TakeNo
use Rattle.channel_writing.specs.Stands.{has_fault, is_fault}
use Rattle.file_channel.specs.Stands.{FileState}
use Rattle.channel_writing.specs.Touches.{Rests}
use Rattle.channel_laws.proofs.Until.{counted_calls_leave}
use Rattle.load_gen.specs.Calls.{IsBack, IsCalled, IsCutOff, IsRefused, Makes, RollsBack, calls_of}
use Rattle.load_gen.specs.Runs.{ArePut, AreRounds, AreTaken, EndsTakes, Generates, IsLoad, IsPut, IsTaken, IsUpkeep, goes_back, is_fiftieth}
use Rattle.load_gen.specs.States.{IsOwnCause}
use Rattle.load_gen.specs.declared.refused.LoadRefused.{LoadRefused}
use Rattle.load_gen.specs.declared.refused.LoadRefused.TheVariants as load
use Rattle.load_gen.proofs.Refusing.{flush_fault, own_cause}
use Rattle.load_gen.proofs.Walking.{AdmitsAll, IsAt, IsReady, after_all, walk_end, walk_to, walks_load}
use Rattle.channel_lock.specs.Calls.{Below, has}
use Rattle.channel_lock.specs.Turns.{HasAll}
use Rattle.channel_lock.specs.Views.{View}
use Rattle.shared_channel.specs.Calls.{Left, state_seen}
use Rattle.shared_channel.specs.Counting.{StandsAgreeing}
use Rattle.shared_channel.specs.Passes.{Known, new_pass}
use Rattle.shared_channel.specs.Ports.{AreUnder, own_calls, own_if}
use Rattle.agent_commands.specs.Loads.{Loads, calls_in, face_status, refused_status}
use Rattle.agent_commands.specs.Puts.{BeginsOver}
use Rattle.agent_commands.specs.Trails.{Trail}
use Rattle.agent_commands.proofs.Passing.{traced}
use Rattle.agent_commands.proofs.Recording.{all_under}
use Rattle.agent_commands.proofs.Trails.{fault_counted, trail_counted}

-- ---- faults

-- one of the calls was refused because the disk failed
abbrev pub failed : List Call → Bool
failed [] = false
failed (call ∷ calls) = is_fault call || failed calls

failed_in : (h : List Step) → has_fault h ≡ failed (calls_in h)
failed_in [] = refl
failed_in (step ∷ h) = ap (λ b. is_fault step.call || b) (failed_in h)

-- of calls without a fault none has one
clean_front : (a b : List Call) → failed (a ++ b) ≡ false → failed a ≡ false
clean_front [] b none = refl
clean_front (call ∷ a) b none = by_call (is_fault call) none (clean_front a b)
  where
    by_call : (x : Bool) → (x || failed (a ++ b)) ≡ false → (failed (a ++ b) ≡ false → failed a ≡ false) → (x || failed a) ≡ false
    by_call true e more = absurd cc
    by_call false e more = more e

failed_then : (a b : List Call) → failed b ≡ false → failed (a ++ b) ≡ failed a
failed_then [] b none = none
failed_then (call ∷ a) b none = ap (λ x. is_fault call || x) (failed_then a b none)

failed_append : (a b : List Call) → failed a ≡ false → failed (a ++ b) ≡ failed b
failed_append [] b none = refl
failed_append (call ∷ a) b none = by_call (is_fault call) none (failed_append a b)
  where
    by_call : (x : Bool) → (x || failed a) ≡ false → (failed a ≡ false → failed (a ++ b) ≡ failed b) → (x || failed (a ++ b)) ≡ failed b
    by_call true e more = absurd cc
    by_call false e more = more e

clean_puts : (token : Token) (events : List Content) (puts : List Call) → ArePut token events puts → failed puts ≡ false
clean_puts token [] puts is = ap failed is
clean_puts token (e ∷ events) puts is = ap failed is.2 ∙ clean_puts token events is.1 is.3

clean_put : (events : List Content) (made : List Call) → IsPut events made → failed made ≡ false
clean_put events made is = ap failed is.4 ∙ failed_append is.2 (StagePut is.0 (Ok is.1) ∷ Flush (Ok tt) ∷ []) (clean_puts is.0 events is.2 is.3)

clean_takes : (token : Token) (most : ℕ) (events : List Content) (takes : List Call) → AreTaken token most events takes → failed takes ≡ false
clean_takes token zero [] takes is = ap failed is
clean_takes token zero (e ∷ events) takes is = absurd is
clean_takes token (suc most) [] takes is = ap failed is.2
clean_takes token (suc most) (e ∷ events) takes is = ap failed is.3 ∙ clean_takes token most events is.2 is.4

clean_ending : (back : Bool) (token : Token) (made : List Call) → EndsTakes back token made → failed made ≡ false
clean_ending true token made is = ap failed is
clean_ending false token made is = ap failed is.1

clean_taken : (k : ℕ) (events : List Content) (made : List Call) → IsTaken k events made → failed made ≡ false
clean_taken k events made is = ap failed is.5 ∙ failed_append is.1 is.2 (clean_takes is.0 50 events is.1 is.3) ∙ clean_ending (goes_back (k + 1)) is.0 is.2 is.4

clean_upkeep : (fiftieth : Bool) (made : List Call) → IsUpkeep fiftieth made → failed made ≡ false
clean_upkeep true made is = ap failed is.1
clean_upkeep false made is = ap failed is

clean_rounds : (n k : ℕ) (takes : List (List Content)) (made : List Call) → AreRounds n k takes made → failed made ≡ false
clean_rounds n k [] made is = ap failed is
clean_rounds n k (taken ∷ takes) made is =
    ap failed is.4 ∙ failed_append is.0 (is.1 ++ (is.2 ++ is.3)) (clean_put _ is.0 is.5) ∙ failed_append is.1 (is.2 ++ is.3) (clean_taken k taken is.1 is.6)
    ∙ failed_append is.2 is.3 (clean_upkeep (is_fiftieth (k + 1)) is.2 is.7) ∙ clean_rounds n (suc k) takes is.3 is.8

clean_load : (n : ℕ) (made : List Call) → IsLoad n made → failed made ≡ false
clean_load n made is = clean_rounds n 0 is.0 made is.1.1

-- a rollback has none
clean_back : (rollback : Call) (IsStale : Type 0) (made : List Call) → is_fault rollback ≡ false → IsBack rollback IsStale made → failed made ≡ false
clean_back rollback IsStale made none (inl is) = ap failed is ∙ ap (λ b. b || false) none
clean_back rollback IsStale made none (inr is) = ap failed is.0

clean_rolled : (next : Call) (s : State) (made : List Call) → RollsBack next s made → failed made ≡ false
clean_rolled (Put token e reply) s made is = clean_back (RollbackPut token true) _ made refl is
clean_rolled (StagePut token reply) s made is = clean_back (RollbackPut token true) _ made refl is
clean_rolled (Take token reply) s made is = clean_back (RollbackTake token true) _ made refl is
clean_rolled (StageTake token reply) s made is = clean_back (RollbackTake token true) _ made refl is
clean_rolled (BeginPut reply) s made is = ap failed is
clean_rolled (BeginTake reply) s made is = ap failed is
clean_rolled (Flush reply) s made is = ap failed is
clean_rolled (RollbackPut token ended) s made is = ap failed is
clean_rolled (RollbackTake token ended) s made is = ap failed is
clean_rolled (Checkpoint reply) s made is = ap failed is
clean_rolled (Prune reply) s made is = ap failed is
clean_rolled (Reopen reply) s made is = ap failed is

clean_called : (seen : ℕ) (spent : Bool) (call : Call) (made : List Call) → is_fault call ≡ false → IsCalled seen spent call made → failed made ≡ false
clean_called seen true call made none is = ap failed is.0
clean_called seen false call made none is = ap failed is ∙ ap (λ b. b || false) none

-- whether a refusal with this cause is a fault of the disk, or of a read
abbrev pub faulty_cause : LoadRefused → Bool
faulty_cause (load.Face (face.Put PutNo.DiskFault)) = true
faulty_cause (load.Face (face.Take TakeNo.ReadFault)) = true
faulty_cause (load.Face (face.Take TakeNo.DiskFault)) = true
faulty_cause (load.Face face.InDoubt) = true
faulty_cause (load.Check CheckNo.DiskFault) = true
faulty_cause (load.Check CheckNo.CheckFault) = true
faulty_cause (load.Prune PruneNo.DiskFault) = true
faulty_cause why = false

doubt_fault : (made : List Call) (cause : FlushRefused) → cause ≡ FlushNo.DiskFault → made ≡ Flush (Err cause) ∷ [] → failed made ≡ true
doubt_fault made cause is e = ap failed e ∙ ap (λ (c : FlushRefused). failed (Flush (Err c) ∷ [])) is

-- the refused call failed just where its cause says so: a call of a transaction
face_fault : (tells : Bool) (seen : ℕ) (s end : State) (next : Call) (why : FaceRefused) (made back : List Call) → IsReady s next → AdmitsAll tells s (made ++ back) → IsRefused seen end next (load.Face why) made → IsOwnCause (load.Face why) → failed made ≡ faulty_cause (load.Face why)
face_fault tells seen s end (BeginPut (Ok token)) (face.Begin (BeginNo.Spent counter)) made back ready admits refuses own = clean_called seen (is_spent_begin (Err (BeginNo.Spent counter))) (BeginPut (Err (BeginNo.Spent counter))) made refl refuses
face_fault tells seen s end (BeginPut (Ok token)) (face.Begin BeginNo.NoMemory) made back ready admits refuses own = ap failed refuses
face_fault tells seen s end (BeginPut (Ok token)) (face.Begin BeginNo.Broken) made back ready admits refuses own = absurd own
face_fault tells seen s end (BeginPut (Ok token)) (face.Begin (BeginNo.TooManyOpen n)) made back ready admits refuses own = absurd own
face_fault tells seen s end (BeginPut (Ok token)) (face.Put why) made back ready admits refuses own = absurd refuses
face_fault tells seen s end (BeginPut (Ok token)) (face.Take why) made back ready admits refuses own = absurd refuses
face_fault tells seen s end (BeginPut (Ok token)) (face.Stage why) made back ready admits refuses own = absurd refuses
face_fault tells seen s end (BeginPut (Ok token)) face.InDoubt made back ready admits refuses own = absurd refuses
face_fault tells seen s end (BeginPut (Err other)) why made back ready admits refuses own = absurd refuses
face_fault tells seen s end (BeginTake (Ok token)) (face.Begin (BeginNo.Spent counter)) made back ready admits refuses own = clean_called seen (is_spent_begin (Err (BeginNo.Spent counter))) (BeginTake (Err (BeginNo.Spent counter))) made refl refuses
face_fault tells seen s end (BeginTake (Ok token)) (face.Begin BeginNo.NoMemory) made back ready admits refuses own = ap failed refuses
face_fault tells seen s end (BeginTake (Ok token)) (face.Begin BeginNo.Broken) made back ready admits refuses own = absurd own
face_fault tells seen s end (BeginTake (Ok token)) (face.Begin (BeginNo.TooManyOpen n)) made back ready admits refuses own = absurd own
face_fault tells seen s end (BeginTake (Ok token)) (face.Put why) made back ready admits refuses own = absurd refuses
face_fault tells seen s end (BeginTake (Ok token)) (face.Take why) made back ready admits refuses own = absurd refuses
face_fault tells seen s end (BeginTake (Ok token)) (face.Stage why) made back ready admits refuses own = absurd refuses
face_fault tells seen s end (BeginTake (Ok token)) face.InDoubt made back ready admits refuses own = absurd refuses
face_fault tells seen s end (BeginTake (Err other)) why made back ready admits refuses own = absurd refuses
face_fault tells seen s end (Put token e (Ok done)) (face.Begin why) made back ready admits refuses own = absurd refuses
face_fault tells seen s end (Put token e (Ok done)) (face.Put (PutNo.Spent counter)) made back ready admits refuses own = clean_called seen (is_spent_put (Err (PutNo.Spent counter))) (Put token e (Err (PutNo.Spent counter))) made refl refuses
face_fault tells seen s end (Put token e (Ok done)) (face.Put PutNo.DiskFault) made back ready admits refuses own = ap failed refuses
face_fault tells seen s end (Put token e (Ok done)) (face.Put PutNo.NoMemory) made back ready admits refuses own = ap failed refuses
face_fault tells seen s end (Put token e (Ok done)) (face.Put PutNo.Stale) made back ready admits refuses own = absurd own
face_fault tells seen s end (Put token e (Ok done)) (face.Put PutNo.Broken) made back ready admits refuses own = absurd own
face_fault tells seen s end (Put token e (Ok done)) (face.Put (PutNo.TxnFull n)) made back ready admits refuses own = absurd own
face_fault tells seen s end (Put token e (Ok done)) (face.Put (PutNo.TooLarge n)) made back ready admits refuses own = absurd own
face_fault tells seen s end (Put token e (Ok done)) (face.Put (PutNo.Full n)) made back ready admits refuses own = absurd own
face_fault tells seen s end (Put token e (Ok done)) (face.Take why) made back ready admits refuses own = absurd refuses
face_fault tells seen s end (Put token e (Ok done)) (face.Stage why) made back ready admits refuses own = absurd refuses
face_fault tells seen s end (Put token e (Ok done)) face.InDoubt made back ready admits refuses own = absurd refuses
face_fault tells seen s end (Put token e (Err other)) why made back ready admits refuses own = absurd refuses
face_fault tells seen s end (Take token (Ok taken)) (face.Begin why) made back ready admits refuses own = absurd refuses
face_fault tells seen s end (Take token (Ok taken)) (face.Put why) made back ready admits refuses own = absurd refuses
face_fault tells seen s end (Take token (Ok taken)) (face.Take (TakeNo.Spent counter)) made back ready admits refuses own = clean_called seen (is_spent_take (Err (TakeNo.Spent counter))) (Take token (Err (TakeNo.Spent counter))) made refl refuses
face_fault tells seen s end (Take token (Ok taken)) (face.Take TakeNo.ReadFault) made back ready admits refuses own = ap failed refuses
face_fault tells seen s end (Take token (Ok taken)) (face.Take (TakeNo.Damaged kept found)) made back ready admits refuses own = ap failed refuses
face_fault tells seen s end (Take token (Ok taken)) (face.Take TakeNo.DiskFault) made back ready admits refuses own = ap failed refuses
face_fault tells seen s end (Take token (Ok taken)) (face.Take TakeNo.NoMemory) made back ready admits refuses own = ap failed refuses
face_fault tells seen s end (Take token (Ok taken)) (face.Take TakeNo.Stale) made back ready admits refuses own = absurd own
face_fault tells seen s end (Take token (Ok taken)) (face.Take TakeNo.Broken) made back ready admits refuses own = absurd own
face_fault tells seen s end (Take token (Ok taken)) (face.Take (TakeNo.TxnFull n)) made back ready admits refuses own = absurd own
face_fault tells seen s end (Take token (Ok taken)) (face.Stage why) made back ready admits refuses own = absurd refuses
face_fault tells seen s end (Take token (Ok taken)) face.InDoubt made back ready admits refuses own = absurd refuses
face_fault tells seen s end (Take token (Err other)) why made back ready admits refuses own = absurd refuses
face_fault tells seen s end (StagePut token (Ok ticket)) (face.Begin why) made back ready admits refuses own = absurd refuses
face_fault tells seen s end (StagePut token (Ok ticket)) (face.Put why) made back ready admits refuses own = absurd refuses
face_fault tells seen s end (StagePut token (Ok ticket)) (face.Take why) made back ready admits refuses own = absurd refuses
face_fault tells seen s end (StagePut token (Ok ticket)) (face.Stage (StageNo.Spent counter)) made back ready admits refuses own = clean_called seen (is_spent_stage (Err (StageNo.Spent counter))) (StagePut token (Err (StageNo.Spent counter))) made refl refuses
face_fault tells seen s end (StagePut token (Ok ticket)) (face.Stage StageNo.Stale) made back ready admits refuses own = absurd own
face_fault tells seen s end (StagePut token (Ok ticket)) (face.Stage StageNo.Broken) made back ready admits refuses own = absurd own
face_fault tells seen s end (StagePut token (Ok ticket)) (face.Stage (StageNo.Full n)) made back ready admits refuses own = absurd own
face_fault tells seen s end (StagePut token (Ok ticket)) face.InDoubt made back ready admits refuses own = absurd refuses
face_fault tells seen s end (StagePut token (Err other)) why made back ready admits refuses own = absurd refuses
face_fault tells seen s end (StageTake token (Ok ticket)) (face.Begin why) made back ready admits refuses own = absurd refuses
face_fault tells seen s end (StageTake token (Ok ticket)) (face.Put why) made back ready admits refuses own = absurd refuses
face_fault tells seen s end (StageTake token (Ok ticket)) (face.Take why) made back ready admits refuses own = absurd refuses
face_fault tells seen s end (StageTake token (Ok ticket)) (face.Stage (StageNo.Spent counter)) made back ready admits refuses own = clean_called seen (is_spent_stage (Err (StageNo.Spent counter))) (StageTake token (Err (StageNo.Spent counter))) made refl refuses
face_fault tells seen s end (StageTake token (Ok ticket)) (face.Stage StageNo.Stale) made back ready admits refuses own = absurd own
face_fault tells seen s end (StageTake token (Ok ticket)) (face.Stage StageNo.Broken) made back ready admits refuses own = absurd own
face_fault tells seen s end (StageTake token (Ok ticket)) (face.Stage (StageNo.Full n)) made back ready admits refuses own = absurd own
face_fault tells seen s end (StageTake token (Ok ticket)) face.InDoubt made back ready admits refuses own = absurd refuses
face_fault tells seen s end (StageTake token (Err other)) why made back ready admits refuses own = absurd refuses
face_fault tells seen s end (Flush (Ok done)) (face.Begin why) made back ready admits refuses own = absurd refuses
face_fault tells seen s end (Flush (Ok done)) (face.Put why) made back ready admits refuses own = absurd refuses
face_fault tells seen s end (Flush (Ok done)) (face.Take why) made back ready admits refuses own = absurd refuses
face_fault tells seen s end (Flush (Ok done)) (face.Stage why) made back ready admits refuses own = absurd refuses
face_fault tells seen s end (Flush (Ok done)) face.InDoubt made back ready admits refuses own = doubt_fault made refuses.0 (flush_fault tells s refuses.0 made back ready refuses.1 admits) refuses.1
face_fault tells seen s end (Flush (Err other)) why made back ready admits refuses own = absurd refuses
face_fault tells seen s end (RollbackTake token true) (face.Begin why) made back ready admits refuses own = absurd refuses
face_fault tells seen s end (RollbackTake token true) (face.Put why) made back ready admits refuses own = absurd refuses
face_fault tells seen s end (RollbackTake token true) (face.Take (TakeNo.Spent counter)) made back ready admits refuses own = absurd refuses
face_fault tells seen s end (RollbackTake token true) (face.Take TakeNo.ReadFault) made back ready admits refuses own = absurd refuses
face_fault tells seen s end (RollbackTake token true) (face.Take (TakeNo.Damaged kept found)) made back ready admits refuses own = absurd refuses
face_fault tells seen s end (RollbackTake token true) (face.Take TakeNo.DiskFault) made back ready admits refuses own = absurd refuses
face_fault tells seen s end (RollbackTake token true) (face.Take TakeNo.NoMemory) made back ready admits refuses own = absurd refuses
face_fault tells seen s end (RollbackTake token true) (face.Take TakeNo.Broken) made back ready admits refuses own = absurd refuses
face_fault tells seen s end (RollbackTake token true) (face.Take (TakeNo.TxnFull n)) made back ready admits refuses own = absurd refuses
face_fault tells seen s end (RollbackTake token true) (face.Take TakeNo.Stale) made back ready admits refuses own = absurd own
face_fault tells seen s end (RollbackTake token true) (face.Stage why) made back ready admits refuses own = absurd refuses
face_fault tells seen s end (RollbackTake token true) face.InDoubt made back ready admits refuses own = absurd refuses
face_fault tells seen s end (RollbackTake token false) why made back ready admits refuses own = absurd refuses
face_fault tells seen s end (RollbackPut token ended) why made back ready admits refuses own = absurd ready
face_fault tells seen s end (Checkpoint (Ok done)) (face.Begin why) made back ready admits refuses own = absurd refuses
face_fault tells seen s end (Checkpoint (Ok done)) (face.Put why) made back ready admits refuses own = absurd refuses
face_fault tells seen s end (Checkpoint (Ok done)) (face.Take why) made back ready admits refuses own = absurd refuses
face_fault tells seen s end (Checkpoint (Ok done)) (face.Stage why) made back ready admits refuses own = absurd refuses
face_fault tells seen s end (Checkpoint (Ok done)) face.InDoubt made back ready admits refuses own = absurd refuses
face_fault tells seen s end (Checkpoint (Err other)) why made back ready admits refuses own = absurd refuses
face_fault tells seen s end (Prune (Ok count)) (face.Begin why) made back ready admits refuses own = absurd refuses
face_fault tells seen s end (Prune (Ok count)) (face.Put why) made back ready admits refuses own = absurd refuses
face_fault tells seen s end (Prune (Ok count)) (face.Take why) made back ready admits refuses own = absurd refuses
face_fault tells seen s end (Prune (Ok count)) (face.Stage why) made back ready admits refuses own = absurd refuses
face_fault tells seen s end (Prune (Ok count)) face.InDoubt made back ready admits refuses own = absurd refuses
face_fault tells seen s end (Prune (Err other)) why made back ready admits refuses own = absurd refuses
face_fault tells seen s end (Reopen reply) why made back ready admits refuses own = absurd ready

-- a checkpoint
laid_fault : (seen : ℕ) (why : CheckRefused) (made : List Call) → IsCalled seen (is_spent_check (Err why)) (Checkpoint (Err why)) made → IsOwnCause (load.Check why) → failed made ≡ faulty_cause (load.Check why)
laid_fault seen (CheckNo.Spent counter) made refuses own = clean_called seen (is_spent_check (Err (CheckNo.Spent counter))) (Checkpoint (Err (CheckNo.Spent counter))) made refl refuses
laid_fault seen CheckNo.DiskFault made refuses own = ap failed refuses
laid_fault seen CheckNo.CheckFault made refuses own = ap failed refuses
laid_fault seen CheckNo.Broken made refuses own = absurd own

check_fault : (seen : ℕ) (s end : State) (next : Call) (why : CheckRefused) (made : List Call) → IsReady s next → IsRefused seen end next (load.Check why) made → IsOwnCause (load.Check why) → failed made ≡ faulty_cause (load.Check why)
check_fault seen s end (BeginPut (Ok done)) why made ready refuses own = absurd refuses
check_fault seen s end (BeginPut (Err other)) why made ready refuses own = absurd refuses
check_fault seen s end (BeginTake (Ok done)) why made ready refuses own = absurd refuses
check_fault seen s end (BeginTake (Err other)) why made ready refuses own = absurd refuses
check_fault seen s end (Put token e (Ok done)) why made ready refuses own = absurd refuses
check_fault seen s end (Put token e (Err other)) why made ready refuses own = absurd refuses
check_fault seen s end (Take token (Ok done)) why made ready refuses own = absurd refuses
check_fault seen s end (Take token (Err other)) why made ready refuses own = absurd refuses
check_fault seen s end (StagePut token (Ok done)) why made ready refuses own = absurd refuses
check_fault seen s end (StagePut token (Err other)) why made ready refuses own = absurd refuses
check_fault seen s end (StageTake token (Ok done)) why made ready refuses own = absurd refuses
check_fault seen s end (StageTake token (Err other)) why made ready refuses own = absurd refuses
check_fault seen s end (Flush (Ok done)) why made ready refuses own = absurd refuses
check_fault seen s end (Flush (Err other)) why made ready refuses own = absurd refuses
check_fault seen s end (RollbackTake token true) why made ready refuses own = absurd refuses
check_fault seen s end (RollbackTake token false) why made ready refuses own = absurd refuses
check_fault seen s end (Checkpoint (Ok done)) why made ready refuses own = laid_fault seen why made refuses own
check_fault seen s end (Checkpoint (Err other)) why made ready refuses own = absurd refuses
check_fault seen s end (Prune (Ok done)) why made ready refuses own = absurd refuses
check_fault seen s end (Prune (Err other)) why made ready refuses own = absurd refuses
check_fault seen s end (RollbackPut token ended) why made ready refuses own = absurd ready
check_fault seen s end (Reopen reply) why made ready refuses own = absurd ready

-- a removal of old files
pruned_fault : (seen : ℕ) (why : PruneRefused) (made : List Call) → IsCalled seen (is_spent_prune (Err why)) (Prune (Err why)) made → IsOwnCause (load.Prune why) → failed made ≡ faulty_cause (load.Prune why)
pruned_fault seen (PruneNo.Spent counter) made refuses own = clean_called seen (is_spent_prune (Err (PruneNo.Spent counter))) (Prune (Err (PruneNo.Spent counter))) made refl refuses
pruned_fault seen PruneNo.DiskFault made refuses own = ap failed refuses
pruned_fault seen PruneNo.Broken made refuses own = absurd own

prune_fault : (seen : ℕ) (s end : State) (next : Call) (why : PruneRefused) (made : List Call) → IsReady s next → IsRefused seen end next (load.Prune why) made → IsOwnCause (load.Prune why) → failed made ≡ faulty_cause (load.Prune why)
prune_fault seen s end (BeginPut (Ok done)) why made ready refuses own = absurd refuses
prune_fault seen s end (BeginPut (Err other)) why made ready refuses own = absurd refuses
prune_fault seen s end (BeginTake (Ok done)) why made ready refuses own = absurd refuses
prune_fault seen s end (BeginTake (Err other)) why made ready refuses own = absurd refuses
prune_fault seen s end (Put token e (Ok done)) why made ready refuses own = absurd refuses
prune_fault seen s end (Put token e (Err other)) why made ready refuses own = absurd refuses
prune_fault seen s end (Take token (Ok done)) why made ready refuses own = absurd refuses
prune_fault seen s end (Take token (Err other)) why made ready refuses own = absurd refuses
prune_fault seen s end (StagePut token (Ok done)) why made ready refuses own = absurd refuses
prune_fault seen s end (StagePut token (Err other)) why made ready refuses own = absurd refuses
prune_fault seen s end (StageTake token (Ok done)) why made ready refuses own = absurd refuses
prune_fault seen s end (StageTake token (Err other)) why made ready refuses own = absurd refuses
prune_fault seen s end (Flush (Ok done)) why made ready refuses own = absurd refuses
prune_fault seen s end (Flush (Err other)) why made ready refuses own = absurd refuses
prune_fault seen s end (RollbackTake token true) why made ready refuses own = absurd refuses
prune_fault seen s end (RollbackTake token false) why made ready refuses own = absurd refuses
prune_fault seen s end (Checkpoint (Ok done)) why made ready refuses own = absurd refuses
prune_fault seen s end (Checkpoint (Err other)) why made ready refuses own = absurd refuses
prune_fault seen s end (Prune (Ok done)) why made ready refuses own = pruned_fault seen why made refuses own
prune_fault seen s end (Prune (Err other)) why made ready refuses own = absurd refuses
prune_fault seen s end (RollbackPut token ended) why made ready refuses own = absurd ready
prune_fault seen s end (Reopen reply) why made ready refuses own = absurd ready

no_memory_fault : (seen : ℕ) (end : State) (next : Call) (made : List Call) → IsRefused seen end next load.NoMemory made → ⊥
no_memory_fault seen end (BeginPut (Ok done)) made refuses = refuses
no_memory_fault seen end (BeginPut (Err other)) made refuses = refuses
no_memory_fault seen end (BeginTake (Ok done)) made refuses = refuses
no_memory_fault seen end (BeginTake (Err other)) made refuses = refuses
no_memory_fault seen end (Put token e (Ok done)) made refuses = refuses
no_memory_fault seen end (Put token e (Err other)) made refuses = refuses
no_memory_fault seen end (Take token (Ok done)) made refuses = refuses
no_memory_fault seen end (Take token (Err other)) made refuses = refuses
no_memory_fault seen end (StagePut token (Ok done)) made refuses = refuses
no_memory_fault seen end (StagePut token (Err other)) made refuses = refuses
no_memory_fault seen end (StageTake token (Ok done)) made refuses = refuses
no_memory_fault seen end (StageTake token (Err other)) made refuses = refuses
no_memory_fault seen end (Flush (Ok done)) made refuses = refuses
no_memory_fault seen end (Flush (Err other)) made refuses = refuses
no_memory_fault seen end (RollbackTake token true) made refuses = refuses
no_memory_fault seen end (RollbackTake token false) made refuses = refuses
no_memory_fault seen end (Checkpoint (Ok done)) made refuses = refuses
no_memory_fault seen end (Checkpoint (Err other)) made refuses = refuses
no_memory_fault seen end (Prune (Ok done)) made refuses = refuses
no_memory_fault seen end (Prune (Err other)) made refuses = refuses
no_memory_fault seen end (RollbackPut token ended) made refuses = refuses
no_memory_fault seen end (Reopen reply) made refuses = refuses

refused_fault : (tells : Bool) (seen : ℕ) (s end : State) (next : Call) (why : LoadRefused) (made back : List Call) → IsReady s next → AdmitsAll tells s (made ++ back) → IsRefused seen end next why made → IsOwnCause why → failed made ≡ faulty_cause why
refused_fault tells seen s end next (load.Face why) made back ready admits refuses own = face_fault tells seen s end next why made back ready admits refuses own
refused_fault tells seen s end next (load.Check why) made back ready admits refuses own = check_fault seen s end next why made ready refuses own
refused_fault tells seen s end next (load.Prune why) made back ready admits refuses own = prune_fault seen s end next why made ready refuses own
refused_fault tells seen s end next load.NoMemory made back ready admits refuses own = absurd (no_memory_fault seen end next made refuses)

-- its status is 3 where it is a fault, and else 4 or 5
abbrev IsThree : Bool → ℕ → Type 0
IsThree faulty status = ((faulty ≡ true) × (status ≡ 3)) ⊎ ((faulty ≡ false) × ((status ≡ 4) ⊎ (status ≡ 5)))

face_three : (why : FaceRefused) → IsOwnCause (load.Face why) → IsThree (faulty_cause (load.Face why)) (face_status why)
face_three (face.Begin (BeginNo.Spent counter)) own = inr (refl, inl refl)
face_three (face.Begin BeginNo.NoMemory) own = inr (refl, inr refl)
face_three (face.Begin BeginNo.Broken) own = absurd own
face_three (face.Begin (BeginNo.TooManyOpen n)) own = absurd own
face_three (face.Put (PutNo.Spent counter)) own = inr (refl, inl refl)
face_three (face.Put PutNo.DiskFault) own = inl (refl, refl)
face_three (face.Put PutNo.NoMemory) own = inr (refl, inr refl)
face_three (face.Put PutNo.Stale) own = absurd own
face_three (face.Put PutNo.Broken) own = absurd own
face_three (face.Put (PutNo.TxnFull n)) own = absurd own
face_three (face.Put (PutNo.TooLarge n)) own = absurd own
face_three (face.Put (PutNo.Full n)) own = absurd own
face_three (face.Take (TakeNo.Spent counter)) own = inr (refl, inl refl)
face_three (face.Take TakeNo.ReadFault) own = inl (refl, refl)
face_three (face.Take (TakeNo.Damaged kept found)) own = inr (refl, inl refl)
face_three (face.Take TakeNo.DiskFault) own = inl (refl, refl)
face_three (face.Take TakeNo.NoMemory) own = inr (refl, inr refl)
face_three (face.Take TakeNo.Stale) own = absurd own
face_three (face.Take TakeNo.Broken) own = absurd own
face_three (face.Take (TakeNo.TxnFull n)) own = absurd own
face_three (face.Stage (StageNo.Spent counter)) own = inr (refl, inl refl)
face_three (face.Stage StageNo.Stale) own = absurd own
face_three (face.Stage StageNo.Broken) own = absurd own
face_three (face.Stage (StageNo.Full n)) own = absurd own
face_three face.InDoubt own = inl (refl, refl)

-- a refusal with a cause of the generator's own has the status 3 exactly where it is a fault
pub cause_three : (why : LoadRefused) → IsOwnCause why → IsThree (faulty_cause why) (refused_status why)
cause_three (load.Face why) own = face_three why own
cause_three (load.Check (CheckNo.Spent counter)) own = inr (refl, inl refl)
cause_three (load.Check CheckNo.DiskFault) own = inl (refl, refl)
cause_three (load.Check CheckNo.CheckFault) own = inl (refl, refl)
cause_three (load.Check CheckNo.Broken) own = absurd own
cause_three (load.Prune (PruneNo.Spent counter)) own = inr (refl, inl refl)
cause_three (load.Prune PruneNo.DiskFault) own = inl (refl, refl)
cause_three (load.Prune PruneNo.Broken) own = absurd own
cause_three load.NoMemory own = inr (refl, inr refl)

-- ---- histories

-- the calls of a history, on the machine
runs_all : (tells : Bool) (s : State) (h : List Step) → IsRun tells s h → AdmitsAll tells s (calls_in h)
runs_all tells s [] run = tt
runs_all tells s (step ∷ h) run = (run.0, runs_all tells (after s step.call) h run.1)

leads_to : (s : State) (h : List Step) → after_all s (calls_in h) ≡ state_after s h
leads_to s [] = refl
leads_to s (step ∷ h) = leads_to (after s step.call) h

admits_split : (tells : Bool) (s : State) (a b : List Call) → AdmitsAll tells s (a ++ b) → AdmitsAll tells s a × AdmitsAll tells (after_all s a) b
admits_split tells s [] b all = (tt, all)
admits_split tells s (call ∷ a) b all = let more = admits_split tells (after s call) a b all.1 in ((all.0, more.0), more.1)

after_append : (s : State) (a b : List Call) → after_all s (a ++ b) ≡ after_all (after_all s a) b
after_append s [] b = refl
after_append s (call ∷ a) b = after_append (after s call) a b

-- of calls with one's own number all are one's own
calls_all : (ns : List ℕ) (s : State) (h : List Step) → has ns 0 ≡ true → AreUnder 0 h → calls_of (own_calls ns s h) ≡ calls_in h
calls_all ns s [] mine under = refl
calls_all ns s (step ∷ h) mine under =
    let o : Own = record { call = step.call; before = s; moment = step.moment } in
    let rest = own_calls ns (after s step.call) h in
    let is : has ns step.pass ≡ true = ap (has ns) under.0 ∙ mine in
    ap (λ b. calls_of (own_if b o rest)) is ∙ ap (λ (l : List Call). step.call ∷ l) (calls_all ns (after s step.call) h mine under.1)

-- whatever a trail leads to rests
pub trail_rests : (s : State) (told told' : Option Told) (h : List Step) → Rests told s → Trail s told h told' → Rests told' (state_after s h)
trail_rests s told told' [] rests trail = subst (λ (o : Option Told). Rests o s) (sym trail) rests
trail_rests s told told' (step ∷ h) rests trail = trail_rests (after s step.call) trail.0 told' h trail.1.rests trail.2

-- a channel of a folder that has room
starts_at : (before : Option Told) (start : Opening) → BeginsOver before start → IsAt 1000000 (length start.base.items) [] [] (opening start)
starts_at before start begins = record {
  kind = ap (λ (r : Rules). r.kind) begins.rules;
  most = ap (λ (r : Rules). r.limits.capacity) begins.rules;
  room = let m : start.rules.limits.txn_capacity ≡ 10000 = ap (λ (r : Rules). r.limits.txn_capacity) begins.rules in omega (arith, m);
  opens = refl;
  waits = refl;
  whole = refl;
  items = omega arith;
}

-- what a run's answer says of faults
abbrev pub load_three : Result (String Global) LoadRefused → Bool
load_three (Ok text) = false
load_three (Err why) = faulty_cause why

-- the generator's cause, where it was refused, is of its own
abbrev pub IsOwnAnswer : Result (String Global) LoadRefused → Type 0
IsOwnAnswer (Ok text) = Unit {0}
IsOwnAnswer (Err why) = IsOwnCause why

abbrev pub EndsWell : Result (String Global) LoadRefused → State → Type 0
EndsWell (Ok text) s = (s.staged ≡ []) × (s.broken ≡ false)
EndsWell (Err why) s = Unit {0}

-- What a run that was cut off says of the calls of a whole history, from a channel with room on.
judged_cut : (tells : Bool) (n held seen : ℕ) (s : State) (why : LoadRefused) (made : List Call) → n < 2 ^ 32 → IsAt 1000000 held [] [] s → held + n ≤ 1000000 → AdmitsAll tells s made → IsCutOff (IsLoad n) seen (after_all s made) why made → IsOwnCause why × (failed made ≡ faulty_cause why) × Unit {0}
judged_cut tells n held seen s why made fits at room admits is =
    let split = admits_split tells s is.front (is.refused ++ is.back) (subst (AdmitsAll tells s) is.whole admits) in
    let t = after_all s is.front in
    let ready : IsReady t is.next = walk_to tells s is.front is.goes.0 is.next (IsAt 1000000 1000000 [] []) (walks_load tells 1000000 n held s ((is.front ++ is.next ∷ []) ++ is.goes.0) fits at room is.goes.1) split.0 in
    let ends : after_all t (is.refused ++ is.back) ≡ after_all s made = sym (ap (after_all s) is.whole ∙ after_append s is.front (is.refused ++ is.back)) in
    let own = own_cause tells seen t (after_all s made) is.next why is.refused is.back ready split.1 ends is.refuses is.rolls in
    let clean = clean_front is.front (is.next ∷ []) (clean_front (is.front ++ is.next ∷ []) is.goes.0 (clean_load n _ is.goes.1)) in
    let its = refused_fault tells seen t (after_all s made) is.next why is.refused is.back ready split.1 is.refuses own in
    (own, ap failed is.whole ∙ failed_append is.front (is.refused ++ is.back) clean ∙ failed_then is.refused is.back (clean_rolled is.next (after_all s made) is.back is.rolls) ∙ its, tt)

-- What an answer says of the calls of a whole history, from a channel with room on.
judged : (tells : Bool) (n held seen : ℕ) (s : State) (answer : Result (String Global) LoadRefused) (made : List Call) → n < 2 ^ 32 → IsAt 1000000 held [] [] s → held + n ≤ 1000000 → AdmitsAll tells s made → Generates n seen (after_all s made) answer made
    → IsOwnAnswer answer × (failed made ≡ load_three answer) × EndsWell answer (after_all s made)
judged tells n held seen s (Ok text) made fits at room admits is =
    let end = walk_end tells s made (IsAt 1000000 1000000 [] []) (walks_load tells 1000000 n held s made fits at room (is.0, is.1)) admits in
    (tt, clean_load n made (is.0, is.1), (end.waits, end.whole))
judged tells n held seen s (Err load.NoMemory) made fits at room admits (inl is) = (tt, clean_load n made is, tt)
judged tells n held seen s (Err load.NoMemory) made fits at room admits (inr is) =
    let clean = clean_front is.front (is.next ∷ []) (clean_front (is.front ++ is.next ∷ []) is.goes.0 (clean_load n _ is.goes.1)) in
    (tt, ap failed is.whole ∙ failed_append is.front is.back clean ∙ clean_rolled is.next (after_all s made) is.back is.rolls, tt)
judged tells n held seen s (Err (load.Face why)) made fits at room admits is = judged_cut tells n held seen s (load.Face why) made fits at room admits is
judged tells n held seen s (Err (load.Check why)) made fits at room admits is = judged_cut tells n held seen s (load.Check why) made fits at room admits is
judged tells n held seen s (Err (load.Prune why)) made fits at room admits is = judged_cut tells n held seen s (load.Prune why) made fits at room admits is

-- what the history of a closed channel says of its folder and of the disk's faults
pub record Closing (n : ℕ) (before told : Option Told) (faults : ℕ) (start : Opening) (w : Known) (answer : Result (String Global) LoadRefused) : Type 0 where
  pub loads : Loads n before told w answer
  pub own : IsOwnAnswer answer
  pub later : start.faults ≤ faults
  pub rose : load_three answer ≡ true → Rose start.faults faults
  pub same : load_three answer ≡ false → faults ≡ start.faults

ends_of : (answer : Result (String Global) LoadRefused) (s : State) → EndsWell answer s → (text : String Global) → answer ≡ Ok text → (s.staged ≡ []) × (s.broken ≡ false)
ends_of (Ok text) s ends other is = ends
ends_of (Err why) s ends other is = absurd cc

module _ {C : Type 0} (told_by : C → Option Told) (faults_by : C → ℕ) (state_by : C → FileState) (before : Option Told) (start : Opening) (table : TableId) (n : ℕ) (fits : n < 2 ^ 32) where
  abbrev TracedBy : C → Opening → List Step → Type 0
  TracedBy = traced told_by faults_by state_by

  has_all : (q : Known) → q.view.passes ≡ 1 → q.view.numbers ≡ 0 ∷ [] → HasAll q.view
  has_all q passes numbers k below =
      let zero : k ≡ 0 = omega (arith, below, passes) in
      ap (λ (l : List ℕ). has l k) numbers ∙ ap (λ (m : ℕ). has (0 ∷ []) m) zero

  -- what the generator's calls and the close of the channel come to
  pub loaded : (q w : Known) (c : C) (answer : Result (String Global) LoadRefused) → Makes 0 (new_pass table start 1 0).view q.view (Generates n (length q.view.seen) (state_seen q.view) answer) → Left TracedBy (λ x. is_some_of (told_by x)) q.view [] w.view c
      → StandsAgreeing TracedBy c q.view.base w.view.seen → (HasAll q.view → w.view.seen ≡ q.view.seen) → BeginsOver before start → length start.base.items + n ≤ 1000000 → Closing n before (told_by c) (faults_by c) start w answer
  loaded q w c answer makes left agrees whole begins room =
      let went = makes.1 in
      let same : w.view.seen ≡ q.view.seen = whole (has_all q went.passes went.numbers) in
      let base : w.view.base ≡ start = ap (λ (v : View). v.base) left.made.1 ∙ went.base in
      let under : AreUnder 0 w.view.seen = all_under w.view.seen (subst (λ (m : ℕ). Below m w.view.seen) went.passes left.made.4) in
      let mine : has q.view.numbers 0 ≡ true = ap (λ (l : List ℕ). has l 0) went.numbers in
      let state : state_seen q.view ≡ state_seen w.view = λ i. state_after (opening (sym (ap (λ (v : View). v.base) left.made.1) i)) (sym same i) in
      let own : calls_of makes.0 ≡ calls_in w.view.seen = ap calls_of (sym went.owned) ∙ calls_all q.view.numbers (opening q.view.base) q.view.seen mine (subst (AreUnder 0) same under) ∙ ap calls_in (sym same) in
      let calls : Generates n (length w.view.seen) (state_seen w.view) answer (calls_in w.view.seen) = subst (λ (p : ℕ × State × List Call). Generates n p.0 p.1 answer p.2) (λ i. (length (sym same i), state i, own i)) makes.2 in
      closed w c answer calls base under q left (subst (λ (o : Opening). StandsAgreeing TracedBy c o w.view.seen) (sym (ap (λ (v : View). v.base) left.made.1)) agrees) begins room
    where
      closed : (w : Known) (c : C) (answer : Result (String Global) LoadRefused) → Generates n (length w.view.seen) (state_seen w.view) answer (calls_in w.view.seen) → w.view.base ≡ start → AreUnder 0 w.view.seen → (q : Known) → Left TracedBy (λ x. is_some_of (told_by x)) q.view [] w.view c
          → StandsAgreeing TracedBy c w.view.base w.view.seen → BeginsOver before start → length start.base.items + n ≤ 1000000 → Closing n before (told_by c) (faults_by c) start w answer
      closed w c answer calls base under q left agrees begins room =
          let o = w.view.base in
          let h = w.view.seen in
          let a = agrees.1 in
          let over : BeginsOver before o = subst (BeginsOver before) (sym base) begins in
          let items : length o.base.items ≡ length start.base.items = ap (λ (x : Opening). length x.base.items) base in
          let ends : after_all (opening o) (calls_in h) ≡ state_after (opening o) h = leads_to (opening o) h in
          let j = judged (is_some_of (told_by c)) n (length o.base.items) (length h) (opening o) answer (calls_in h) fits (starts_at before o over) (omega (arith, items, room)) (runs_all (is_some_of (told_by c)) (opening o) h left.seen.run)
          (subst (λ (s : State). Generates n (length h) s answer (calls_in h)) (sym ends) calls) in
          let fault : has_fault agrees.0 ≡ load_three answer = fault_counted (opening o) agrees.0 ∙ ap has_fault agrees.2 ∙ failed_in h ∙ j.1 in
          let from : o.faults ≡ start.faults = ap (λ (x : Opening). x.faults) base in
          let trail : Trail (opening o) a.first h (told_by c) = subst (λ (l : List Step). Trail (opening o) a.first l (told_by c)) agrees.2 (trail_counted (opening o) a.first (told_by c) agrees.0 a.trail) in
          record {
            loads = record {
              kept = record {
                begins = over;
                images = counted_calls_leave (told_by c) (faults_by c) (state_by c) o h (agrees.0, a.stands, agrees.2);
                rests = trail_rests (opening o) a.first (told_by c) h a.began.rests trail;
              };
              room = omega (arith, items, room);
              run = subst (λ (b : Bool). IsRun b (opening o) h) (sym left.seen.same) left.seen.run;
              under = under;
              calls = calls;
              ends = ends_of answer (state_seen w.view) (subst (EndsWell answer) ends j.2);
            };
            own = j.0;
            later = let l = a.stands.later in omega (arith, l, from);
            rose = λ three. subst (λ (m : ℕ). Rose m (faults_by c)) from (a.stands.causes (fault ∙ three));
            same = λ none. a.stands.clean (fault ∙ none) ∙ from;
          }
