-- One more call at the end of those that were recorded.
use Rattle.std.proofs.Common.{◌≡◌, ◌≤◌, ◌<◌, ◌+◌, ◌⊎◌, inl, inr, ℕ, add-zero, take-append-drop, List, [], ◌∷◌, ◌++◌, set, get_or, length, take, Option, Some, None, Result, Ok, Err, OnOk, OnErr, Bool, true, false, not, cond, refl, sym, ◌∙◌, ap, subst}
use Rattle.flume_host.specs.declared.names.FileName.{FileName}
use Rattle.flume_host.specs.Folder.{Files, same_name, with_at, over}
use Rattle.std.specs.List.{filter}
use Rattle.std.proofs.lemmas.List.{append-nil, take_more}
use Rattle.flume_host.specs.declared.names.Failed.{Failed}
use Rattle.flume_host.specs.Told.{sync_cost, Told, Make, Write, Sync, Remove, Call, On, Settle, Does, Leads, DidPart, file_after}
use Rattle.flume_host.proofs.Telling.{some_same, silent}
use Rattle.flume_host.proofs.Keeps.{with_at_same}
use Rattle.host_memory.specs.Laws.{IsSound, step_sound, told_sound}
use Rattle.host_memory.specs.declared.parts.MemFile.{MemFile}
use Rattle.host_memory.specs.declared.parts.MemCall.{MemCall}
use Rattle.host_memory.specs.declared.parts.Recorded.{Recorded}
use Rattle.host_memory.specs.declared.parts.Outcome.{Outcome}
use Rattle.host_memory.specs.declared.parts.Outcome.TheVariants.{Whole, Partly, Nothing}
use Rattle.host_memory.specs.Parts.{files_of, place, call_of, front_of, part_after, answer_of, step, step_by, run, start, told_of, told_by}
use Rattle.host_memory.proofs.Files.{files_of-set, files_of-push, files_of-filter, other_than, placed, not_placed}

-- a run of calls with one more at the end is a step after the run
pub run-push : (t : Told) (calls : List MemCall) (call : MemCall) → run t (calls ++ call ∷ []) ≡ step call (run t calls)
run-push t [] call = refl
run-push t (c ∷ calls) call = run-push (step c t) calls call

-- a call that was recorded
pub pushed : (first : List MemFile) (calls new : List MemCall) (change : Recorded) (outcome : Outcome) → new ≡ calls ++ record { change = change; outcome = outcome } ∷ [] → told_of first new ≡ step_by outcome (call_of change) (told_of first calls)
pushed first calls new change outcome is = ap (λ (l : List MemCall). told_of first l) is ∙ run-push (start first) calls (record { change = change; outcome = outcome })

-- a call that was recorded or not
pub quiet_push : (first : List MemFile) (calls new : List MemCall) (change : Recorded) (outcome : Outcome) (b : Bool) → (step_by outcome (call_of change) (told_of first calls)).reads ≡ (told_of first calls).reads
    → new ≡ cond b (calls ++ record { change = change; outcome = outcome } ∷ []) calls → (told_of first new).reads ≡ (told_of first calls).reads
quiet_push first calls new change outcome true quiet is = ap (λ (t : Told). t.reads) (pushed first calls new change outcome is) ∙ quiet
quiet_push first calls new change outcome false quiet is = ap (λ (l : List MemCall). (told_of first l).reads) is

-- a sync changes nothing that reads give
pub quiet_sync : (outcome : Outcome) (name : FileName) (t : Told) → (step_by outcome (On name Sync) t).reads ≡ t.reads
quiet_sync Whole name t = with_at_same t.reads name
quiet_sync (Partly n) name t = with_at_same t.reads name
quiet_sync Nothing name t = refl

-- a settle changes nothing that reads give
pub quiet_settle : (outcome : Outcome) (t : Told) → (step_by outcome Settle t).reads ≡ t.reads
quiet_settle Whole t = refl
quiet_settle (Partly n) t = refl
quiet_settle Nothing t = refl

-- what reads give of a name after a call that did all or a part
made_reads : (outcome : Outcome) (t : Told) (name : FileName) → (outcome ≡ Nothing → ⊥) → t.reads name ≡ None → (step_by outcome (On name Make) t).reads ≡ with_at t.reads name (Some [])
made_reads Whole t name some none = refl
made_reads (Partly n) t name some none = ap (λ (o : Option (List ℕ)). with_at t.reads name (part_after n Make o)) none
made_reads Nothing t name some none = absurd (some refl)

wrote_reads : (outcome : Outcome) (t : Told) (name : FileName) (was : List ℕ) (at : ℕ) (bytes : List ℕ) → t.reads name ≡ Some was → at ≤ length was
    → (step_by outcome (On name (Write at bytes)) t).reads ≡ with_at t.reads name (Some (over was at (front_of outcome bytes)))
wrote_reads Whole t name was at bytes had within = ap (λ (o : Option (List ℕ)). with_at t.reads name (file_after (Write at bytes) o)) had
wrote_reads (Partly n) t name was at bytes had within = ap (λ (o : Option (List ℕ)). with_at t.reads name (file_after (Write at (take n bytes)) o)) had
wrote_reads Nothing t name was at bytes had within =
    sym (with_at_same t.reads name) ∙ ap (λ (o : Option (List ℕ)). with_at t.reads name o) (had ∙ ap (λ (b : List ℕ). Some b) (sym (over-nil was at)))
  where
    over-nil : (was : List ℕ) (at : ℕ) → over was at [] ≡ was
    over-nil was at = rw (append-nil (take at was), add-zero at) (take-append-drop at was)

removed_reads : (outcome : Outcome) (t : Told) (name : FileName) → (outcome ≡ Nothing → ⊥) → (step_by outcome (On name Remove) t).reads ≡ with_at t.reads name None
removed_reads Whole t name some = refl
removed_reads (Partly n) t name some = refl
removed_reads Nothing t name some = absurd (some refl)

module _ (t : Told) (files : List MemFile) (agrees : files_of files ≡ t.reads) (name : FileName) (outcome : Outcome) where
  at_name : files_of files name ≡ t.reads name
  at_name = ap (λ (f : Files). f name) agrees

  -- a file that was made, wholly or in part, is read as an empty one
  pub made : (file : MemFile) → (outcome ≡ Nothing → ⊥) → place files name ≡ None → file.name ≡ name → file.bytes.items ≡ [] → files_of (files ++ file ∷ []) ≡ (step_by outcome (On name Make) t).reads
  made file some absent named empty =
      let none : files_of files name ≡ None = not_placed files name absent in
      let gone : place files file.name ≡ None = ap (λ (n : FileName). place files n) named ∙ absent in
      (λ i n. (files_of-push files file gone n
      ∙ ap (λ (f : Files). with_at f file.name (Some file.bytes.items) n) agrees
      ∙ ap (λ (m : FileName). with_at t.reads m (Some file.bytes.items) n) named
      ∙ ap (λ (b : List ℕ). with_at t.reads name (Some b) n) empty) i)
      ∙ sym (made_reads outcome t name some (sym at_name ∙ none))

  -- a write is read as the front of its bytes that was written
  pub wrote : (k : ℕ) (file : MemFile) (was : List ℕ) (at : ℕ) (bytes : List ℕ) → place files name ≡ Some k → file.name ≡ name → files_of files name ≡ Some was → at ≤ length was → file.bytes.items ≡ over was at (front_of outcome bytes)
      → files_of (set files k file) ≡ (step_by outcome (On name (Write at bytes)) t).reads
  wrote k file was at bytes placed named had within is =
      (λ i n. (files_of-set files name k file placed named n
      ∙ ap (λ (f : Files). with_at f name (Some file.bytes.items) n) agrees
      ∙ ap (λ (b : List ℕ). with_at t.reads name (Some b) n) is) i)
      ∙ sym (wrote_reads outcome t name was at bytes (sym at_name ∙ had) within)

  -- a file that was removed, wholly or in part, is read no more
  pub removed : (left : List MemFile) → (outcome ≡ Nothing → ⊥) → left ≡ filter (other_than name) files → files_of left ≡ (step_by outcome (On name Remove) t).reads
  removed left some is =
      ap (λ (l : List MemFile). files_of l) is
      ∙ (λ i n. files_of-filter files name n i)
      ∙ ap (λ (f : Files). with_at f name None) agrees
      ∙ sym (removed_reads outcome t name some)

-- what a call under way may leave doesn't matter where reads of this file stay
spared : {A : Type 0} (b : Bool) (x y : A) → not b ≡ true → cond b x y ≡ y
spared true x y spare = cc
spared false x y spare = refl

-- a call that failed and did a part, or nothing that reads give
did_part : (outcome : Outcome) (call : Call) (t : Told) → (outcome ≡ Whole → ⊥) → IsSound t → DidPart call t (step_by outcome call t)
did_part Whole call t part sound = absurd (part refl)
did_part (Partly n) (On name change) t part sound = record {
  now = refl;
  past = refl;
  syncs = refl;
  reads = step_sound (Partly n) (On name change) t sound;
  others = λ m spare. spared (same_name m name) (part_after n change (t.reads name)) (t.reads m) spare;
}
did_part (Partly n) Settle t part sound = record { now = refl; past = refl; syncs = refl; reads = step_sound (Partly n) Settle t sound; others = λ m spare. refl }
did_part Nothing call t part sound = record { now = refl; past = refl; syncs = refl; reads = step_sound Nothing call t sound; others = λ m spare. refl }

-- a call that failed, and was recorded or not
part_leads : (outcome : Outcome) (noted : Result (Unit {0}) Failed) (call : Call) (t u : Told) → (outcome ≡ Whole → ⊥) → IsSound t → OnOk noted (u ≡ step_by outcome call t) → OnErr noted (u ≡ t) → ((u ≡ t) ⊎ DidPart call t u)
part_leads outcome (Ok x) call t u part sound ok err = inr (let P : Told → Type 0 = λ v. DidPart call t v in subst P (sym ok) (did_part outcome call t part sound))
part_leads outcome (Err e) call t u part sound ok err = inl err

leads_by : (outcome : Outcome) (noted : Result (Unit {0}) Failed) (call : Call) (t u : Told) → IsSound t → OnOk noted (u ≡ step_by outcome call t) → OnErr noted (u ≡ t) → Leads call (answer_of outcome noted) t u
leads_by Whole (Ok x) call t u sound ok err = record { ok = ok; err = tt }
leads_by Whole (Err e) call t u sound ok err = record { ok = tt; err = inl err }
leads_by (Partly n) noted call t u sound ok err = record { ok = tt; err = part_leads (Partly n) noted call t u (λ is. cc) sound ok err }
leads_by Nothing noted call t u sound ok err = record { ok = tt; err = part_leads Nothing noted call t u (λ is. cc) sound ok err }

-- what a disk shows of a call, by what was recorded
pub does_by : (tells : Bool) (first new_first : List MemFile) (calls new_calls : List MemCall) (outcome : Outcome) (noted result : Result (Unit {0}) Failed) (call : Call) → result ≡ answer_of outcome noted
    → OnOk noted (told_of new_first new_calls ≡ step_by outcome call (told_of first calls)) → OnErr noted (told_of new_first new_calls ≡ told_of first calls) → Does call result (told_by tells first calls) (told_by tells new_first new_calls)
does_by true first new_first calls new_calls outcome noted result call is ok err =
    let P : Result (Unit {0}) Failed → Type 0 = λ r. Leads call r (told_of first calls) (told_of new_first new_calls) in
    subst P (sym is) (leads_by outcome noted call (told_of first calls) (told_of new_first new_calls) (told_sound first calls) ok err)
does_by false first new_first calls new_calls outcome noted result call is ok err = tt

-- what a read of a file at its place gives
pub has_read : (tells : Bool) (first : List MemFile) (calls : List MemCall) (u : Told) (files : List MemFile) (name : FileName) (i : ℕ) (file : MemFile) → told_by tells first calls ≡ Some u → files_of files ≡ (told_of first calls).reads → place files name ≡ Some i
    → file ≡ get_or files i file → u.reads name ≡ Some file.bytes.items
has_read true first calls u files name i file same agrees is read =
    ap (λ (v : Told). v.reads name) (sym (some_same (told_of first calls) u same))
    ∙ sym (ap (λ (f : Files). f name) agrees)
    ∙ (placed files name i is).found file
    ∙ ap (λ (f : MemFile). Some f.bytes.items) (sym read)
has_read false first calls u files name i file same agrees is read = absurd (silent u same)

step_syncs : (outcome : Outcome) (call : Call) (t : Told) → (step_by outcome call t).syncs ≡ t.syncs + sync_cost call
step_syncs Whole call t = refl
step_syncs (Partly n) call t = refl
step_syncs Nothing call t = refl

-- the syncs of one call more
pub syncs_more : (first : List MemFile) (calls : List MemCall) (i : ℕ) (call : MemCall) → i < length calls → call ≡ get_or calls i call → (told_of first (take (i + 1) calls)).syncs ≡ (told_of first (take i calls)).syncs + sync_cost (call_of call.change)
syncs_more first calls i call below is =
    ap (λ (l : List MemCall). (told_of first l).syncs) (take_more calls i call below)
    ∙ ap (λ (t : Told). t.syncs) (run-push (start first) (take i calls) (get_or calls i call))
    ∙ step_syncs (get_or calls i call).outcome (call_of (get_or calls i call).change) (told_of first (take i calls))
    ∙ ap (λ (d : MemCall). (told_of first (take i calls)).syncs + sync_cost (call_of d.change)) (sym is)
