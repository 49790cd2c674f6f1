-- An image that is changed along the calls stays one that a crash may leave.
use Rattle.std.proofs.Common.{◌≡◌, ◌<◌, ◌≤◌, ◌+◌, ◌-◌, ℕ, zero, suc, List, [], ◌∷◌, ◌++◌, length, get_or, take, min, Option, Some, None, refl, sym, ◌∙◌, ap, subst, arith, inl, inr, length-append, length-take}
use Rattle.std.proofs.lemmas.List.{get_or_append_left, get_or-append_right, get_or_past, length-replicate, take_all, drop_all, take_more}
use Rattle.std.proofs.lemmas.Bool.{cases_lt}
use Rattle.flume_host.specs.Folder.{Entry, Gone, There, Unsure, Allows, IsImage, Files, Folder, same_name, write_entry, over}
use Rattle.flume_host.specs.Told.{Told, Change, Make, Write, Sync, Remove, Call, On, Settle, IsLeftAt, entry_under, entry_after, file_after, under_way, done}
use Rattle.flume_host.proofs.Keeps.{maybe_itself, settled}
use Rattle.host_memory.specs.declared.parts.MemFile.{MemFile}
use Rattle.host_memory.specs.declared.parts.MemCall.{MemCall}
use Rattle.host_memory.specs.declared.parts.Outcome.{Outcome}
use Rattle.host_memory.specs.declared.parts.Outcome.TheVariants.{Whole, Partly, Nothing}
use Rattle.host_memory.specs.declared.stops.Stood.{Stood}
use Rattle.host_memory.specs.declared.stops.Stood.TheVariants.{Old, New, Front, Garbage}
use Rattle.host_memory.specs.Parts.{call_of, run, start, step, step_by, told_of}
use Rattle.host_memory.specs.Stops.{stood_of, torn, kept, image_torn, image_kept, image_by, reads_by}
use Rattle.host_memory.specs.Laws.{IsSound, here_or_there, part_one, under_one, wider_entry, written_one}
use Rattle.host_memory.proofs.Replay.{run-push}

-- a write past the end begins at the end
pub over_min : (was : List ℕ) (at : ℕ) (bytes : List ℕ) → over was (min at (length was)) bytes ≡ over was at bytes
over_min was at bytes = elim (cases_lt at (length was)) [
  | inl within ↦ ap (λ (k : ℕ). over was k bytes) (let same : min at (length was) ≡ at = omega (arith, within) in same)
  | inr past ↦
      ap (λ (k : ℕ). over was k bytes) (let same : min at (length was) ≡ length was = omega (arith, past) in same)
      ∙ rw (take_all (length was) was (omega arith), take_all at was (omega (arith, past)), drop_all (length was + length bytes) was (omega arith), drop_all (at + length bytes) was (omega (arith, past))) refl
]

no_longer : (stood : Stood) (bytes : List ℕ) → length (stood_of stood bytes) ≤ length bytes
no_longer Old bytes = omega arith
no_longer New bytes = omega arith
no_longer (Front n) bytes = omega (arith, length-take n bytes)
no_longer (Garbage byte) bytes = omega (arith, length-replicate (length bytes) byte)

torn_write : (stood : Stood) (at : ℕ) (bytes : List ℕ) (entry : Entry) (file : Option (List ℕ)) → Allows entry file → Allows (write_entry at (length bytes) entry) (file_after (Write at (stood_of stood bytes)) file)
torn_write stood at bytes entry file allows =
    wider_entry entry at (length (stood_of stood bytes)) (length bytes) (file_after (Write at (stood_of stood bytes)) file) (no_longer stood bytes) (written_one at (stood_of stood bytes) entry file allows)

torn_one : (stood : Stood) (change : Change) (entry : Entry) (file : Option (List ℕ)) → Allows entry file → Allows (entry_under change entry) (torn stood change file)
torn_one Old Make entry file allows = under_one Make entry file allows
torn_one New Make entry file allows = part_one 0 Make entry file allows
torn_one (Front n) Make entry file allows = part_one 0 Make entry file allows
torn_one (Garbage byte) Make entry file allows = part_one 0 Make entry file allows
torn_one Old (Write at bytes) entry file allows = torn_write Old at bytes entry file allows
torn_one New (Write at bytes) entry file allows = torn_write New at bytes entry file allows
torn_one (Front n) (Write at bytes) entry file allows = torn_write (Front n) at bytes entry file allows
torn_one (Garbage byte) (Write at bytes) entry file allows = torn_write (Garbage byte) at bytes entry file allows
torn_one Old Sync entry file allows = allows
torn_one New Sync entry file allows = allows
torn_one (Front n) Sync entry file allows = allows
torn_one (Garbage byte) Sync entry file allows = allows
torn_one Old Remove entry file allows = under_one Remove entry file allows
torn_one New Remove entry file allows = part_one 0 Remove entry file allows
torn_one (Front n) Remove entry file allows = part_one 0 Remove entry file allows
torn_one (Garbage byte) Remove entry file allows = part_one 0 Remove entry file allows

kept_one : (stood : Stood) (change : Change) (reads : Option (List ℕ)) (entry : Entry) (file : Option (List ℕ)) → Allows entry reads → Allows entry file → Allows (entry_after change reads entry) (kept stood change reads file)
kept_one stood Make reads entry file gives allows = maybe_itself []
kept_one stood (Write at bytes) reads entry file gives allows = torn_write stood at bytes entry file allows
kept_one stood Sync None entry file gives allows = allows
kept_one stood Sync (Some bytes) Gone file gives allows = absurd gives
kept_one stood Sync (Some bytes) (There s) file gives allows = maybe_itself bytes
kept_one stood Sync (Some bytes) (Unsure s) file gives allows = maybe_itself bytes
kept_one stood Remove reads entry file gives allows = tt

-- an image torn by a call under way is one that a crash may leave then
pub torn_left : (stood : Stood) (call : Call) (folder : Folder) (image : Files) → IsImage folder image → IsImage (under_way call folder) (image_torn stood call image)
torn_left stood (On name change) folder image left = λ m. here_or_there (same_name m name) (entry_under change (folder name)) (folder m) (torn stood change (image name)) (image m) (torn_one stood change (folder name) (image name) (left name)) (left m)
torn_left stood Settle folder image left = left

kept_left : (stood : Stood) (call : Call) (t : Told) (image : Files) → IsSound t → IsImage t.now image → IsImage (done call t).now (image_kept stood call t.reads image)
kept_left stood (On name change) t image sound left = λ m. here_or_there (same_name m name) (entry_after change (t.reads name) (t.now name)) (t.now m) (kept stood change (t.reads name) (image name)) (image m) (kept_one stood change (t.reads name) (t.now name) (image name) (sound name) (left name)) (left m)
kept_left stood Settle t image sound left = λ n. settled (t.reads n)

-- an image that is changed by a call's outcome is one that a crash may leave after it
pub image_left : (outcome : Outcome) (stood : Stood) (call : Call) (t : Told) (image : Files) → IsSound t → IsImage t.now image → IsImage (step_by outcome call t).now (image_by outcome stood call t.reads image)
image_left Whole stood call t image sound left = kept_left stood call t image sound left
image_left (Partly n) stood call t image sound left = torn_left stood call t.now image left
image_left Nothing stood call t image sound left = torn_left stood call t.now image left

-- what reads give after a call is what its outcome makes of what they gave
pub reads_step : (outcome : Outcome) (call : Call) (t : Told) → (step_by outcome call t).reads ≡ reads_by outcome call t.reads
reads_step Whole call t = refl
reads_step (Partly n) call t = refl
reads_step Nothing call t = refl

-- the folder under way of a call stands in the past at its number
past_step : (outcome : Outcome) (call : Call) (t : Told) → (step_by outcome call t).past ≡ t.past ++ under_way call t.now ∷ []
past_step Whole call t = refl
past_step (Partly n) call t = refl
past_step Nothing call t = refl

past_grows : (outcome : Outcome) (call : Call) (t : Told) → length (step_by outcome call t).past ≡ length t.past + 1
past_grows outcome call t = omega (arith, ap length (past_step outcome call t), length-append t.past (under_way call t.now ∷ []))

-- each call of a run adds one folder to the past
pub past_length : (t : Told) (calls : List MemCall) → length (run t calls).past ≡ length t.past + length calls
past_length t [] = omega arith
past_length t (call ∷ calls) = omega (arith, past_length (step call t) calls, past_grows call.outcome (call_of call.change) t)

past_stays : (t : Told) (calls : List MemCall) (i : ℕ) (d : Folder) → i < length t.past → get_or (run t calls).past i d ≡ get_or t.past i d
past_stays t [] i d below = refl
past_stays t (call ∷ calls) i d below =
    past_stays (step call t) calls i d (omega (arith, below, past_grows call.outcome (call_of call.change) t))
    ∙ ap (λ (l : List Folder). get_or l i d) (past_step call.outcome (call_of call.change) t)
    ∙ get_or_append_left t.past (under_way (call_of call.change) t.now ∷ []) d i below

past_at : (t : Told) (calls : List MemCall) (i : ℕ) (d : Folder) (c : MemCall) → i < length calls → get_or (run t calls).past (length t.past + i) d ≡ under_way (call_of (get_or calls i c).change) (run t (take i calls)).now
past_at t [] i d c below = absurd (omega (arith, below))
past_at t (call ∷ calls) zero d c below =
    let here : length t.past + 0 < length (step call t).past = omega (arith, past_grows call.outcome (call_of call.change) t) in
    past_stays (step call t) calls (length t.past + 0) d here
    ∙ ap (λ (l : List Folder). get_or l (length t.past + 0) d) (past_step call.outcome (call_of call.change) t)
    ∙ get_or-append_right t.past (under_way (call_of call.change) t.now ∷ []) (length t.past) (length t.past + 0) d refl (omega arith)
    ∙ ap (λ (k : ℕ). get_or (under_way (call_of call.change) t.now ∷ []) k d) (let none : length t.past + 0 - length t.past ≡ 0 = omega arith in none)
past_at t (call ∷ calls) (suc i) d c below =
    let place : length t.past + suc i ≡ length (step call t).past + i = omega (arith, past_grows call.outcome (call_of call.change) t) in
    ap (λ (k : ℕ). get_or (run (step call t) calls).past k d) place ∙ past_at (step call t) calls i d c (omega (arith, below))

-- a moment within a call
pub left_within_call : (first : List MemFile) (calls : List MemCall) (i : ℕ) (call : MemCall) (image : Files) → i < length calls → call ≡ get_or calls i call → IsImage (under_way (call_of call.change) (told_of first (take i calls)).now) image → IsLeftAt (told_of first calls) i image
left_within_call first calls i call image below is left =
    let past : get_or (told_of first calls).past i (told_of first calls).now ≡ under_way (call_of call.change) (told_of first (take i calls)).now =
    past_zero ∙ past_at (start first) calls i (told_of first calls).now call below ∙ ap (λ (c : MemCall). under_way (call_of c.change) (told_of first (take i calls)).now) (sym is) in
    subst (λ (f : Folder). IsImage f image) (sym past) left
  where
    past_zero : get_or (told_of first calls).past i (told_of first calls).now ≡ get_or (told_of first calls).past (length (start first).past + i) (told_of first calls).now
    past_zero = ap (λ (k : ℕ). get_or (told_of first calls).past k (told_of first calls).now) (let same : i ≡ length (start first).past + i = omega arith in same)

-- a moment after the last call
pub left_after_all : (first : List MemFile) (calls : List MemCall) (moment : ℕ) (image : Files) → length calls ≤ moment → IsImage (told_of first calls).now image → IsLeftAt (told_of first calls) moment image
left_after_all first calls moment image after left =
    subst (λ (f : Folder). IsImage f image) (sym (get_or_past (told_of first calls).past moment (told_of first calls).now (omega (arith, after, past_length (start first) calls)))) left

-- one call more
pub run_more : (first : List MemFile) (calls : List MemCall) (i : ℕ) (call : MemCall) → i < length calls → call ≡ get_or calls i call → told_of first (take (i + 1) calls) ≡ step call (told_of first (take i calls))
run_more first calls i call below is =
    ap (λ (l : List MemCall). told_of first l) (take_more calls i call below)
    ∙ run-push (start first) (take i calls) (get_or calls i call)
    ∙ ap (λ (c : MemCall). step c (told_of first (take i calls))) (sym is)
