-- A channel lays a checkpoint of itself.
use Rattle.std.proofs.Common.{◌⊎◌, inl, inr, ◌≡◌, ◌<◌, ◌+◌, ◌++◌, ◌∷◌, [], ℕ, List, length, length-append, Option, Some, Result, Ok, Err, Bool, true, false, cond, refl, sym, ◌∙◌, ap, subst, arith}
use Rattle.std.specs.Prelude.{OnOk}
use Rattle.std.proofs.lemmas.Bool.Decides.{nat_tests}
use Rattle.flume_host.specs.Causes.{Rose}
use Rattle.flume_host.specs.Folder.{Files, IsImage, same_name}
use Rattle.flume_host.specs.Told.{Changes, LeavesOnly, Tells, Told, WhereTold}
use Rattle.flume_host.specs.declared.names.FileName.TheVariants.{Check}
use Rattle.flume_host.proofs.Telling.{back, follows, some_same, tells_more}
use Rattle.event_core.specs.Journal.{put_events, taken_numbers}
use Rattle.channel_log.specs.Frames.{header, opened}
use Rattle.channel_log.specs.Writer.{Writer}
use Rattle.channel_face.specs.Counters.{capped, counted}
use Rattle.channel_face.specs.History.{settled_by}
use Rattle.channel_face.specs.Machine.{State, Checkpoint, after, settle}
use Rattle.channel_face.specs.declared.replies.CheckRefused.{CheckRefused}
use Rattle.channel_face.specs.declared.replies.CheckRefused.TheVariants as CheckNo
use Rattle.channel_face.specs.declared.replies.Counter.TheVariants as counters
use Rattle.channel_face.specs.declared.replies.Counts.{Counts}
use Rattle.txn_core.specs.Counted.{tally_of}
use Rattle.txn_core.specs.Noted.{noted}
use Rattle.txn_core.specs.declared.calls.Call.TheVariants as notes
use Rattle.txn_core.specs.declared.calls.Reply.{Reply}
use Rattle.channel_writing.specs.Stands.{is_fault}
use Rattle.channel_writing.specs.Touches.{FillsFiles, Flushed}
use Rattle.channel_writing.specs.Written.{IsLogged, MayRecover, RecoversSettled}
use Rattle.channel_writing.proofs.Opening.{joined, only_more}
use Rattle.channel_writing.proofs.Standing.{Spans, Touched}
use Rattle.checkpoint.specs.Text.{CheckText}
use Rattle.channel_laying.specs.Laying.{IsLaying}
use Rattle.file_channel.specs.Laid.{AreFree, IsBare, IsEnd, IsLaid, IsLaidOf, Lays, MayBeLaid, MayStand, end_of_log, is_made, is_tried}
use Rattle.file_channel.specs.Placed.{Fits, IsStateOf, Logged}
use Rattle.file_channel.specs.Stepped.{Steps}
use Rattle.file_channel.proofs.Calls.{flush_steps}
use Rattle.file_channel.proofs.Standing.{flushing_tally}

-- what was flushed is bare
pub flushed_bare : (told told' : Option Told) (old new : Logged) (s : State) → IsStateOf told old s → s.broken ≡ false → Fits told' new (settle s) → new.log.bytes ≡ [] → IsBare told' new (settle s)
flushed_bare told told' old new s is still fits empty = record { is = (flush_steps told told' old new s is still fits empty).stands; whole = still; staged = refl; empty = empty }

-- what is said of an answer that is Ok
pub ok_given : {E : Type 0} (r : Result (Unit {0}) E) (A : Type 0) → r ≡ Ok tt → OnOk r A → A
ok_given {E} r A is given = subst (λ (x : Result (Unit {0}) E). OnOk x A) is given

-- the machine's steps

-- a checkpoint that was laid leaves the state flushed
pub check_steps : (told told' : Option Told) (old new : Logged) (s : State) → IsStateOf told old s → s.broken ≡ false → IsStateOf told' new (settle s) → new.log.bytes ≡ [] → Steps told told' old new (Checkpoint (Ok tt)) s
check_steps told told' old new s is still stands empty = record { admitted = (still, is.whole.kind); stands = stands; waits = ap (λ (l : List ℕ). length l) empty }

-- the flush was made, but the checkpoint failed
pub check_fails : (told told' : Option Told) (old new : Logged) (s : State) → IsStateOf told old s → s.broken ≡ false → IsStateOf told' new (settle s) → new.log.bytes ≡ [] → Steps told told' old new (Checkpoint (Err CheckNo.CheckFault)) s
check_fails told told' old new s is still stands empty = record { admitted = (still, is.whole.kind); stands = stands; waits = ap (λ (l : List ℕ). length l) empty }

-- the flush before the checkpoint failed
pub disk_fails : (told told' : Option Told) (old new : Logged) (s : State) → IsStateOf told old s → s.broken ≡ false → IsStateOf told' new (after s (Checkpoint (Err CheckNo.DiskFault))) → new.log.bytes ≡ old.log.bytes → Steps told told' old new (Checkpoint (Err CheckNo.DiskFault)) s
disk_fails told told' old new s is still failed same = record { admitted = (still, is.whole.kind); stands = failed; waits = ap (λ (l : List ℕ). length l) same }

-- a broken channel refuses a checkpoint
pub check_refuses : (told : Option Told) (old : Logged) (s : State) → IsStateOf told old s → s.broken ≡ true → Steps told told old old (Checkpoint (Err CheckNo.Broken)) s
check_refuses told old s is broken = record { admitted = (broken, is.whole.kind); stands = is; waits = refl }

-- no number is left for a checkpoint, and nothing is changed
pub check_spent : (told : Option Told) (old : Logged) (s : State) → IsStateOf told old s → s.broken ≡ false → Steps told told old old (Checkpoint (Err (CheckNo.Spent counters.Check))) s
check_spent told old s is still = record { admitted = ((still, refl), is.whole.kind); stands = is; waits = refl }

-- the images

settled_may : (s : State) (image : Files) → RecoversSettled (settle s) image → MayRecover s image
settled_may s image found = (found.0, found.1, inr found.2)

-- a flush, and then what is settled by it stays
pub flushed_then : (told mid told' : Option Told) (s : State) → Tells told mid (λ t u. Flushed s t u) → Tells mid told' (λ t u. LeavesOnly t u (RecoversSettled (settle s))) → Tells told told' (λ t u. LeavesOnly t u (MayRecover s))
flushed_then told mid told' s first second =
    follows told mid told' (λ t u. Flushed s t u) (λ t u. LeavesOnly t u (RecoversSettled (settle s))) (λ t u. LeavesOnly t u (MayRecover s))
    (λ t u v old between new a b. joined t u v (MayRecover s) a.images (only_more u v (RecoversSettled (settle s)) (MayRecover s) (settled_may s) b)) first second

-- a flush without a checkpoint leaves what may be recovered
pub flushed_only : (told told' : Option Told) (s : State) → Tells told told' (λ t u. Flushed s t u) → Tells told told' (λ t u. LeavesOnly t u (MayRecover s))
flushed_only told told' s first = tells_more told told' (λ t u. Flushed s t u) (λ t u. LeavesOnly t u (MayRecover s)) (λ t u old new did. did.images) first

-- a flush and then a write of the checkpoint's file lay it
pub lays_then : (told mid told' : Option Told) (number max_file waiting : ℕ) (c : CheckText) → Tells told mid (FillsFiles max_file waiting) → (waiting ≡ 0 → mid ≡ told) → Tells mid told' (Changes (Check number) (IsLaying c) 3) → Tells told told' (Lays number max_file waiting c)
lays_then told mid told' number max_file waiting c first nothing second =
    follows told mid told' (FillsFiles max_file waiting) (Changes (Check number) (IsLaying c) 3) (Lays number max_file waiting c)
    (λ t u v old between new a b. record { mid = u; fills = a; nothing = λ none. some_same u t (sym between ∙ (nothing none ∙ old)); lays = b }) first second

-- the numbers that are free

other_check : (n number : ℕ) → number < n → same_name (Check n) (Check number) ≡ false
other_check n number less = grind (arith, nat_tests)

-- after a checkpoint was written, the number behind it is free
pub free_laid : (told told' : Option Told) (number most : ℕ) (P : Option (List ℕ) → Type 0) → Tells told told' (Changes (Check number) P most) → AreFree told number → AreFree told' (number + 1)
free_laid told told' number most P changes free u now n high =
    let was = back told told' (Changes (Check number) P most) changes u now in
    let same = was.2.others (Check n) (other_check n number (omega (arith, high))) in
    let unused = free was.0 was.1 n (omega (arith, high)) in
    (same.1 ∙ unused.0, same.0 ∙ unused.1)

-- the end of the log

end_there : (t : Told) (w : Writer) (busy : ℕ) (s : State) → IsLogged (Some t) w busy s → s.broken ≡ false → IsEnd t (end_of_log w)
end_there t w busy s logged still =
    let disk = (logged.waits still).disk t refl in
    record {
      bytes = (header disk.birth w.file ++ opened disk.frames) ++ 0 ∷ [];
      there = disk.rest.reads;
      at = length-append (header disk.birth w.file ++ opened disk.frames) (0 ∷ []) ∙ ap (λ (n : ℕ). n + 1) (sym disk.rest.offset);
      last = disk.none;
    }

-- a checkpoint laid where the writer goes on has the end of the log for its place
pub laid_at_end : (told : Option Told) (new : Logged) (number : ℕ) (s : State) (r : Result (Unit {0}) CheckRefused) → IsStateOf told new (after s (Checkpoint r)) → (is_tried r ≡ true → s.broken ≡ false) → OnOk r (WhereTold told (λ t. IsLaidOf t number (end_of_log new.log) (settle s))) → OnOk r (WhereTold told (IsLaid number (settle s)))
laid_at_end told new number s (Ok done) is still laid =
    λ t there. (end_of_log new.log, end_there t new.log new.busy (settle s) (subst (λ (o : Option Told). IsLogged o new.log new.busy (settle s)) there (is.whole.logged (still refl))) (still refl), laid t there)
laid_at_end told new number s (Err e) is still laid = tt

-- one that was tried may be laid at the end of the log
pub left_at_end : (told : Option Told) (new : Logged) (number : ℕ) (s : State) (r : Result (Unit {0}) CheckRefused) → IsStateOf told new (after s (Checkpoint r)) → (is_tried r ≡ true → s.broken ≡ false) → (is_made r ≡ true → WhereTold told (λ t. (image : Files) → IsImage t.now image → MayStand number (end_of_log new.log) (settle s) image))
    → is_made r ≡ true → WhereTold told (MayBeLaid number (settle s))
left_at_end told new number s (Ok done) is still left made =
    λ t there. (end_of_log new.log, end_there t new.log new.busy (settle s) (subst (λ (o : Option Told). IsLogged o new.log new.busy (settle s)) there (is.whole.logged (still refl))) (still refl), left refl t there)
left_at_end told new number s (Err CheckNo.CheckFault) is still left made =
    λ t there. (end_of_log new.log, end_there t new.log new.busy (settle s) (subst (λ (o : Option Told). IsLogged o new.log new.busy (settle s)) there (is.whole.logged (still refl))) (still refl), left refl t there)
left_at_end told new number s (Err CheckNo.Broken) is still left made = absurd (cc)
left_at_end told new number s (Err (CheckNo.Spent counter)) is still left made = absurd (cc)
left_at_end told new number s (Err CheckNo.DiskFault) is still left made = absurd (cc)

-- the channel's counts

check_settled : (s : State) (r : Result (Unit {0}) CheckRefused) → settled_by s (Checkpoint r) ≡ cond (is_made r) s.staged []
check_settled s (Ok done) = refl
check_settled s (Err CheckNo.Broken) = refl
check_settled s (Err (CheckNo.Spent counter)) = refl
check_settled s (Err CheckNo.DiskFault) = refl
check_settled s (Err CheckNo.CheckFault) = refl

-- the channel's counts change by what the checkpoint's flush settled
pub check_tally : (old new : Counts) (reply : Reply) (puts takes : ℕ) (s : State) (r : Result (Unit {0}) CheckRefused) → new ≡ noted old notes.Checkpoint reply → reply.settled_puts ≡ cond (is_made r) puts 0 → reply.settled_takes ≡ cond (is_made r) takes 0 → puts ≡ length (put_events s.staged) → takes ≡ capped (length (taken_numbers s.staged))
    → tally_of new ≡ counted s (Checkpoint r) (tally_of old)
check_tally old new reply puts takes s r is reply_puts reply_takes puts_are takes_are =
    flushing_tally old new notes.Checkpoint reply (is_made r) puts takes s (Checkpoint r) is refl refl reply_puts reply_takes puts_are takes_are (check_settled s r)

-- its faults
pub check_is_fault : (r : Result (Unit {0}) CheckRefused) → is_fault (Checkpoint r) ≡ true → (r ≡ Err CheckNo.DiskFault) ⊎ (r ≡ Err CheckNo.CheckFault)
check_is_fault (Ok done) is = absurd (cc)
check_is_fault (Err CheckNo.Broken) is = absurd (cc)
check_is_fault (Err (CheckNo.Spent counter)) is = absurd (cc)
check_is_fault (Err CheckNo.DiskFault) is = inl refl
check_is_fault (Err CheckNo.CheckFault) is = inr refl

-- each fault of a checkpoint's disk raises the count of faults
pub fault_rose : (f f' : ℕ) (r : Result (Unit {0}) CheckRefused) → (r ≡ Err CheckNo.DiskFault → Rose f f') → (r ≡ Err CheckNo.CheckFault → Rose f f') → is_fault (Checkpoint r) ≡ true → Rose f f'
fault_rose f f' r disk check is = from (check_is_fault r is)
  where
    from : (r ≡ Err CheckNo.DiskFault) ⊎ (r ≡ Err CheckNo.CheckFault) → Rose f f'
    from (inl it) = disk it
    from (inr it) = check it

-- what it did to the disk
pub check_touched : (told told' : Option Told) (s : State) (r : Result (Unit {0}) CheckRefused) → (is_tried r ≡ false → told' ≡ told) → (is_tried r ≡ true → (s.broken ≡ false) × Tells told told' (λ t u. LeavesOnly t u (MayRecover s))) → Touched told told' s
check_touched told told' s r quiet tried = from (is_tried r) refl
  where
    from : (b : Bool) → is_tried r ≡ b → Touched told told' s
    from true is = inr (tells_more told told' (λ t u. LeavesOnly t u (MayRecover s)) (λ t u. Spans s t u) (λ t u old new images. record { whole = (tried is).0; images = images }) (tried is).1)
    from false is = inl (quiet is)
