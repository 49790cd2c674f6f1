-- What reads give is one of the images, whatever calls were made.
use Rattle.std.specs.Prelude.{◌≡◌, ◌<◌, ◌≤◌, ◌+◌, ◌⊎◌, ℕ, List, [], ◌∷◌, take, length, Option, None, Some, Bool, true, false, if◌then◌else◌}
use Rattle.std.proofs.Common.{refl, sym, subst, inl, inr}
use Rattle.std.proofs.Math.Nat.{le_refl, le_trans, add-zero, le-add_left, max-le, le-max_left, le-max_right, add-le-add, min-le_right}
use Rattle.std.proofs.lemmas.List.{length-take}
use Rattle.flume_host.specs.declared.names.FileName.TheVariants.{Log}
use Rattle.flume_host.specs.Folder.{FileState, MayBe, Entry, Gone, There, Unsure, Allows, IsImage, Files, Folder, same_name, touch, write_entry}
use Rattle.flume_host.specs.Told.{Told, Change, Make, Write, Sync, Remove, Call, On, Settle, entry_under, under_way, file_after}
use Rattle.flume_host.proofs.Telling.{some_same, silent}
use Rattle.flume_host.proofs.Keeps.{keeps_under, keeps_done, maybe_itself, settled}
use Rattle.host_memory.specs.declared.parts.MemFile.{MemFile}
use Rattle.host_memory.specs.declared.parts.MemCall.{MemCall}
use Rattle.host_memory.specs.declared.parts.Outcome.{Outcome}
use Rattle.host_memory.specs.declared.parts.Outcome.TheVariants.{Whole, Partly, Nothing}
use Rattle.host_memory.specs.Parts.{files_of, call_of, part_after, part_read, step, step_by, run, start, told_of, told_by}

-- a greater range was touched
clear_less : (i at m k : ℕ) → m ≤ k → ((i < at) ⊎ (at + k ≤ i)) → ((i < at) ⊎ (at + m ≤ i))
clear_less i at m k le (inl left) = inl left
clear_less i at m k le (inr right) = inr (le_trans (add-le-add (le_refl at) le) right)

wider : (s : FileState) (at m k : ℕ) (bytes : List ℕ) → m ≤ k → MayBe (touch at m s) bytes → MayBe (touch at k s) bytes
wider s at m k bytes le may = record {
  no_shorter = may.no_shorter;
  no_longer = le_trans may.no_longer (max-le (le-max_left s.longest (at + k)) (le_trans (add-le-add (le_refl at) le) (le-max_right s.longest (at + k))));
  same = λ i below clear. may.same i below (clear_less i at m k le clear.0, clear.1);
}

pub wider_entry : (entry : Entry) (at m k : ℕ) (file : Option (List ℕ)) → m ≤ k → Allows (write_entry at m entry) file → Allows (write_entry at k entry) file
wider_entry Gone at m k file le allows = allows
wider_entry (There s) at m k None le allows = allows
wider_entry (There s) at m k (Some bytes) le allows = wider s at m k bytes le allows
wider_entry (Unsure s) at m k None le allows = allows
wider_entry (Unsure s) at m k (Some bytes) le allows = wider s at m k bytes le allows

-- one file alone
pub under_one : (change : Change) (entry : Entry) (file : Option (List ℕ)) → Allows entry file → Allows (entry_under change entry) file
under_one change entry file allows = keeps_under (λ n. file) (λ n. entry) (λ n. allows) (On (Log 0) change) (Log 0)

pub written_one : (at : ℕ) (bytes : List ℕ) (entry : Entry) (file : Option (List ℕ)) → Allows entry file → Allows (write_entry at (length bytes) entry) (file_after (Write at bytes) file)
written_one at bytes entry file allows = keeps_done (λ n. file) (λ n. entry) (λ n. allows) (On (Log 0) (Write at bytes)) (Log 0)

making : (entry : Entry) → Allows entry None → Allows (entry_under Make entry) (Some [])
making Gone allows = maybe_itself []
making (There s) allows = absurd allows
making (Unsure s) allows = record { no_shorter = le_refl 0; no_longer = none_shorter s.longest; same = λ i below clear. refl }
  where
    none_shorter : (n : ℕ) → 0 ≤ n
    none_shorter n = let P : ℕ → Type 0 = λ k. 0 ≤ k in subst P (add-zero n) (le-add_left 0 n)

removing : (entry : Entry) → Allows (entry_under Remove entry) None
removing Gone = tt
removing (There s) = tt
removing (Unsure s) = tt

pub part_one : (n : ℕ) (change : Change) (entry : Entry) (file : Option (List ℕ)) → Allows entry file → Allows (entry_under change entry) (part_after n change file)
part_one n Make entry None allows = making entry allows
part_one n Make entry (Some was) allows = under_one Make entry (Some was) allows
part_one n (Write at bytes) entry file allows = wider_entry entry at (length (take n bytes)) (length bytes) (file_after (Write at (take n bytes)) file) (front_shorter n bytes) (written_one at (take n bytes) entry file allows)
  where
    front_shorter : (n : ℕ) (bytes : List ℕ) → length (take n bytes) ≤ length bytes
    front_shorter n bytes = let P : ℕ → Type 0 = λ k. k ≤ length bytes in subst P (sym (length-take n bytes)) (min-le_right n (length bytes))
part_one n Sync entry file allows = allows
part_one n Remove entry file allows = removing entry

pub here_or_there : (b : Bool) (new old : Entry) (image other : Option (List ℕ)) → Allows new image → Allows old other → Allows (if b then new else old) (if b then image else other)
here_or_there true new old image other here there = here
here_or_there false new old image other here there = there

-- a call that failed had done a part
keeps_part : (n : ℕ) (call : Call) (folder : Folder) (files : Files) → IsImage folder files → IsImage (under_way call folder) (part_read n call files)
keeps_part n (On name change) folder files reads = λ m. here_or_there (same_name m name) (entry_under change (folder name)) (folder m) (part_after n change (files name)) (files m) (part_one n change (folder name) (files name) (reads name)) (reads m)
keeps_part n Settle folder files reads = reads

abbrev pub IsSound : Told → Type 0
IsSound t = IsImage t.now t.reads

pub step_sound : (outcome : Outcome) (call : Call) (t : Told) → IsSound t → IsSound (step_by outcome call t)
step_sound Whole call t sound = keeps_done t.reads t.now sound call
step_sound (Partly n) call t sound = keeps_part n call t.now t.reads sound
step_sound Nothing call t sound = keeps_under t.reads t.now sound call

run_sound : (t : Told) (calls : List MemCall) → IsSound t → IsSound (run t calls)
run_sound t [] sound = sound
run_sound t (call ∷ calls) sound = run_sound (step call t) calls (step_sound call.outcome (call_of call.change) t sound)

pub told_sound : (first : List MemFile) (calls : List MemCall) → IsSound (told_of first calls)
told_sound first calls = run_sound (start first) calls (λ name. settled (files_of first name))

pub sound : (tells : Bool) (first : List MemFile) (calls : List MemCall) (t : Told) → told_by tells first calls ≡ Some t → IsSound t
sound true first calls t is = let P : Told → Type 0 = λ u. IsSound u in subst P (some_same (told_of first calls) t is) (told_sound first calls)
sound false first calls t is = absurd (silent t is)
