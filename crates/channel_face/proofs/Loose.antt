-- A run over a disk that shows its contents is one over a disk that doesn't.
use Rattle.std.proofs.Common.{◌≡◌, ℕ, List, Option, None, Some, Result, Ok, Err, true, false, refl, ap}
use Rattle.event_core.specs.Content.{Content, size}
use Rattle.channel_face.specs.Machine.{State, Call, BeginPut, BeginTake, Put, Take, StagePut, StageTake, Flush, RollbackPut, RollbackTake, Checkpoint, Prune, Reopen, Kept, Front, Read, Admits, AdmitsTake, AdmitsReopen, MayKeep, Gives, takes_of}
use Rattle.channel_face.specs.declared.replies.Taken.{Taken}
use Rattle.channel_face.specs.declared.replies.TakeRefused.{TakeRefused}
use Rattle.channel_face.specs.declared.replies.TakeRefused.TheVariants as TakeNo
use Rattle.channel_face.specs.declared.replies.OpenCause.{OpenCause}
use Rattle.channel_face.specs.declared.replies.OpenCause.TheVariants as OpenNo
use Rattle.channel_face.specs.Machine.{Reopened}

loose_gives : (kept given : Option Content) → Gives true kept given → Gives false kept given
loose_gives None None is = tt
loose_gives None (Some e) is = absurd (cc)
loose_gives (Some k) None is = absurd (cc)
loose_gives (Some k) (Some e) is = let same : e ≡ k = cc in ap size same

loose_take : (s : State) (takes : Option (List ℕ)) (reply : Result Taken TakeRefused) → AdmitsTake true s takes reply → AdmitsTake false s takes reply
loose_take s takes (Ok taken) may = (may.0, loose_gives _ taken.event may.1, may.2, may.3)
loose_take s takes (Err TakeNo.Stale) may = may
loose_take s takes (Err TakeNo.Broken) may = may
loose_take s takes (Err (TakeNo.TxnFull n)) may = may
loose_take s takes (Err TakeNo.ReadFault) may = may
loose_take s takes (Err (TakeNo.Damaged a b)) may = (may.0, may.1, refl, may.3)
loose_take s takes (Err TakeNo.NoMemory) may = may
loose_take s takes (Err TakeNo.DiskFault) may = may
loose_take s None (Err (TakeNo.Spent counter)) may = may
loose_take s (Some numbers) (Err (TakeNo.Spent counter)) may = may

loose_keep : (s : State) (kept : Kept) → MayKeep true s kept → MayKeep false s kept
loose_keep s (Front k) may = may
loose_keep s (Read base) may = (refl, may.1)

loose_reopen : (s : State) (reply : Result Reopened OpenCause) → AdmitsReopen true s reply → AdmitsReopen false s reply
loose_reopen s (Ok r) may = (may.0, loose_keep s r.kept may.1)
loose_reopen s (Err OpenNo.DiskFault) may = may
loose_reopen s (Err (OpenNo.BadCheck a b)) may = may
loose_reopen s (Err (OpenNo.BadLog a b)) may = may
loose_reopen s (Err (OpenNo.OverCapacity n)) may = may
loose_reopen s (Err (OpenNo.Spent counter)) may = may
loose_reopen s (Err OpenNo.NoMemory) may = may

-- a reply that is allowed over a disk that shows its contents is allowed over any
pub loose : (s : State) (call : Call) → Admits true s call → Admits false s call
loose s (BeginPut reply) may = may
loose s (BeginTake reply) may = may
loose s (Put token event reply) may = may
loose s (Take token reply) may = loose_take s (takes_of s token) reply may
loose s (StagePut token reply) may = may
loose s (StageTake token reply) may = may
loose s (Flush reply) may = may
loose s (RollbackPut token ended) may = may
loose s (RollbackTake token ended) may = may
loose s (Checkpoint reply) may = may
loose s (Prune reply) may = may
loose s (Reopen reply) may = (loose_reopen s reply may.0, may.1)
