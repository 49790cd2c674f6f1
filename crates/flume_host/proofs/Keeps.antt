-- What reads give stays one of the images, for those who write a disk.
use Rattle.std.proofs.Common.{◌≡◌, ◌<◌, ◌≤◌, ◌⊎◌, inl, inr, ℕ, ◌+◌, ◌-◌, min, List, [], ◌++◌, length, get_or, take, drop, Option, Some, None, Bool, true, false, cond, refl, sym, ◌∙◌, ap, subst, arith, length-append, length-drop}
use Rattle.std.proofs.lemmas.List.{length-take, get_or-take, get_or-drop, get_or_append_left, get_or-append_right}
use Rattle.flume_host.specs.declared.names.FileName.{FileName}
use Rattle.flume_host.specs.Folder.{with_at, FileState, MayBe, IsClear, Entry, Gone, There, Unsure, Allows, IsImage, Files, Folder, same_name, stable, touch, over, make_entry, write_entry, sync_entry, settle_entry, remove_entry}
use Rattle.flume_host.proofs.Images.{same_name_is}
use Rattle.flume_host.specs.Told.{Change, Make, Write, Sync, Remove, Call, On, Settle, entry_under, entry_after, file_after, under_way, left_by, read_by}

-- a stable file may be found as it is
pub maybe_itself : (bytes : List ℕ) → MayBe (stable bytes) bytes
maybe_itself bytes = record { no_shorter = omega arith; no_longer = omega arith; same = λ i below clear. refl }

module _ (s : FileState) (was : List ℕ) (at : ℕ) (bytes : List ℕ) (may : MayBe s was) where
  front : length (take at was) ≡ min at (length was)
  front = length-take at was

  size : length (over was at bytes) ≡ length (take at was) + length bytes + length (drop (at + length bytes) was)
  size = omega (arith, length-append (take at was ++ bytes) (drop (at + length bytes) was), length-append (take at was) bytes)

  before : (i : ℕ) → i < length was → i < at → get_or (over was at bytes) i 0 ≡ get_or was i 0
  before i in_was below =
      let in_front : i < length (take at was) = omega (arith, front, in_was, below) in
      get_or_append_left (take at was ++ bytes) (drop (at + length bytes) was) 0 i (omega (arith, in_front, length-append (take at was) bytes))
      ∙ get_or_append_left (take at was) bytes 0 i in_front
      ∙ get_or-take at was i 0 below

  behind : (i : ℕ) → i < length was → at + length bytes ≤ i → get_or (over was at bytes) i 0 ≡ get_or was i 0
  behind i in_was above =
      let whole : length (take at was ++ bytes) ≡ at + length bytes = omega (arith, front, length-append (take at was) bytes, in_was, above) in
      let place : at + length bytes + (i - (at + length bytes)) ≡ i = omega (arith, above) in
      get_or-append_right (take at was ++ bytes) (drop (at + length bytes) was) (at + length bytes) i 0 whole above
      ∙ get_or-drop (at + length bytes) was (i - (at + length bytes)) 0
      ∙ ap (λ (k : ℕ). get_or was k 0) place

  same : (i : ℕ) → i < length s.kept → ((i < at) ⊎ (at + length bytes ≤ i)) × IsClear s.touched i → get_or (over was at bytes) i 0 ≡ get_or s.kept i 0
  same i below (inl left, clear) = before i (omega (arith, below, may.no_shorter)) left ∙ may.same i below clear
  same i below (inr right, clear) = behind i (omega (arith, below, may.no_shorter)) right ∙ may.same i below clear

  -- a file that is written over may be found with all that was written
  pub maybe_over : MayBe (touch at (length bytes) s) (over was at bytes)
  maybe_over = record {
    no_shorter = omega (arith, size, front, length-drop (at + length bytes) was, may.no_shorter);
    no_longer = omega (arith, size, front, length-drop (at + length bytes) was, may.no_longer);
    same = same;
  }

-- a touched file may still be as it was
maybe_touched : (s : FileState) (at n : ℕ) (bytes : List ℕ) → MayBe s bytes → MayBe (touch at n s) bytes
maybe_touched s at n bytes may = record { no_shorter = may.no_shorter; no_longer = omega (arith, may.no_longer); same = λ i below clear. may.same i below clear.1 }

written : (entry : Entry) (reads : Option (List ℕ)) (at : ℕ) (bytes : List ℕ) → Allows entry reads → Allows (write_entry at (length bytes) entry) (file_after (Write at bytes) reads)
written Gone None at bytes allows = tt
written Gone (Some was) at bytes allows = allows
written (There s) None at bytes allows = allows
written (There s) (Some was) at bytes allows = maybe_over s was at bytes allows
written (Unsure s) None at bytes allows = tt
written (Unsure s) (Some was) at bytes allows = maybe_over s was at bytes allows

touched : (entry : Entry) (reads : Option (List ℕ)) (at n : ℕ) → Allows entry reads → Allows (write_entry at n entry) reads
touched Gone reads at n allows = allows
touched (There s) None at n allows = allows
touched (There s) (Some was) at n allows = maybe_touched s at n was allows
touched (Unsure s) None at n allows = tt
touched (Unsure s) (Some was) at n allows = maybe_touched s at n was allows

making : (entry : Entry) (reads : Option (List ℕ)) → Allows entry reads → Allows (make_entry entry) reads
making Gone None allows = tt
making Gone (Some was) allows = absurd allows
making (There s) reads allows = allows
making (Unsure s) None allows = tt
making (Unsure s) (Some was) allows = record { no_shorter = omega arith; no_longer = allows.no_longer; same = λ i below clear. absurd (omega (arith, below)) }

synced : (entry : Entry) (reads : Option (List ℕ)) → Allows entry reads → Allows (sync_entry reads entry) reads
synced entry None allows = allows
synced Gone (Some was) allows = allows
synced (There s) (Some was) allows = maybe_itself was
synced (Unsure s) (Some was) allows = maybe_itself was

-- what reads give of a file is what a crash may leave once it is settled
pub settled : (reads : Option (List ℕ)) → Allows (settle_entry reads) reads
settled None = tt
settled (Some was) = maybe_itself was

removing : (entry : Entry) (reads : Option (List ℕ)) → Allows entry reads → Allows (remove_entry entry) reads
removing Gone reads allows = allows
removing (There s) None allows = tt
removing (There s) (Some was) allows = allows
removing (Unsure s) reads allows = allows

under_one : (change : Change) (entry : Entry) (file : Option (List ℕ)) → Allows entry file → Allows (entry_under change entry) file
under_one Make entry file allows = making entry file allows
under_one (Write at bytes) entry file allows = touched entry file at (length bytes) allows
under_one Sync entry file allows = allows
under_one Remove entry file allows = removing entry file allows

after_one : (change : Change) (entry : Entry) (file : Option (List ℕ)) → Allows entry file → Allows (entry_after change file entry) (file_after change file)
after_one Make entry file allows = maybe_itself []
after_one (Write at bytes) entry file allows = written entry file at bytes allows
after_one Sync entry file allows = synced entry file allows
after_one Remove entry file allows = tt

here_or_there : (b : Bool) (new old : Entry) (image other : Option (List ℕ)) → Allows new image → Allows old other → Allows (cond b new old) (cond b image other)
here_or_there true new old image other here there = here
here_or_there false new old image other here there = there

module _ (files : Files) (folder : Folder) (reads : IsImage folder files) where
  at_one : (name n : FileName) (b : Bool) → same_name n name ≡ b → (new : Entry) → Allows new (files name) → Allows (cond b new (folder n)) (files n)
  at_one name n true same new here = let P : FileName → Type 0 = λ m. Allows new (files m) in subst P (sym (same_name_is n name same)) here
  at_one name n false same new here = reads n

  -- under way, or after a failure that did nothing
  pub keeps_under : (call : Call) → IsImage (under_way call folder) files
  keeps_under (On name change) = λ n. at_one name n (same_name n name) refl (entry_under change (folder name)) (under_one change (folder name) (files name) (reads name))
  keeps_under Settle = reads

  -- after a call that was done, what reads give is one of the images
  pub keeps_done : (call : Call) → IsImage (left_by call files folder) (read_by call files)
  keeps_done (On name change) = λ n. here_or_there (same_name n name) _ _ _ _ (after_one change (folder name) (files name) (reads name)) (reads n)
  keeps_done Settle = λ n. settled (files n)

-- what is put back where it was changes nothing
pub with_at_same : {A : Type 0} (f : FileName → A) (name : FileName) → with_at f name (f name) ≡ f
with_at_same {A} f name = λ i n. (point n (same_name n name) refl) i
  where
    point : (n : FileName) (b : Bool) → same_name n name ≡ b → with_at f name (f name) n ≡ f n
    point n true same = ap (λ (b : Bool). cond b (f name) (f n)) same ∙ ap f (sym (same_name_is n name same))
    point n false other = ap (λ (b : Bool). cond b (f name) (f n)) other
