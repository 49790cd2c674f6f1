-- Which log files a crash may leave to be needed, from one moment to another.
use Rattle.std.proofs.Common.{◌⊎◌, inl, inr, ◌≡◌, ◌≢◌, ◌≤◌, ◌∷◌, ℕ, List, nat_le, Option, Some, None, Bool, true, false, cond, refl, sym, ◌∙◌, ap, subst, arith}
use Rattle.std.specs.Prelude.{IsSomeAnd, if◌then◌else◌}
use Rattle.std.proofs.lemmas.Bool.{cases_lt}
use Rattle.std.proofs.lemmas.Bool.Decides.{eqb_tells, nat_tests}
use Rattle.std.proofs.lemmas.List.{get_or_past}
use Rattle.flume_host.specs.Folder.{Allows, Entry, Files, Folder, IsImage, same_name, settle_entry, with_at}
use Rattle.flume_host.specs.Told.{Changes, OneFile, Told, clock}
use Rattle.flume_host.specs.declared.names.FileName.TheVariants.{Check, Log}
use Rattle.flume_host.proofs.Moments.{clock_rises}
use Rattle.flume_host.proofs.OneFile.{with_at_other, with_at_self}
use Rattle.event_core.specs.Content.{Content}
use Rattle.event_core.specs.declared.journal.Entry.{Entry as JournalEntry}
use Rattle.channel_replay.specs.Start.{Start}
use Rattle.channel_writing.proofs.Flushing.{as_read}
use Rattle.checkpoint.specs.Newest.{ArePassedAbove, IsNewest, IsPassed, IsPassedFile}
use Rattle.checkpoint.specs.Right.{IsRight}
use Rattle.checkpoint.specs.Text.{CheckText, check_bytes}
use Rattle.checkpoint_pruning.specs.Pruning.{KeepsFrom}
use Rattle.checkpoint_recovery.specs.Laws.{NamesFrom, NeedsFrom}
use Rattle.checkpoint_recovery.specs.Recovers.{IsCheck}
use Rattle.checkpoint_recovery.proofs.Elsewhere.{check_elsewhere, not_both, one_newest, open_is_newest, passed_is_not_newest}
use Rattle.checkpoint_recovery.proofs.Kept.{names_all}
use Rattle.channel_laying.specs.Laying.{AreNeeded, AreUnused, IsLaying}
use Rattle.channel_laying.proofs.Naming.{AreNumbered, names_alike}

-- the checkpoints of a folder are as a crash may leave them
abbrev pub AreLeft : Told → Files → Type 0
AreLeft t folder = (n : ℕ) → Allows (t.now (Check n)) (folder (Check n))

-- A text is right for a folder whose log files have numbers of 32 bits, and names them from this one on.
pub record IsNaming (least : ℕ) (c : CheckText) : Type 0 where
  pub files : Files
  pub left : List (ℕ × Content)
  pub opened : List (ℕ × JournalEntry)
  pub right : IsRight files c left opened
  pub numbered : AreNumbered files
  pub names : NamesFrom least c

same_text : (a b : List ℕ) → Some (1 ∷ a) ≡ Some (1 ∷ b) → a ≡ b
same_text a b is = cc

one_number : (a b : ℕ) → Some a ≡ Some b → a ≡ b
one_number a b is = cc

-- a folder of which such a text is the newest checkpoint needs no other log file
pub needs_text : (folder : Files) (least laid number : ℕ) (c : CheckText) → IsNaming least c → laid ≤ number → folder (Check number) ≡ Some (1 ∷ check_bytes c) → ArePassedAbove folder number → NeedsFrom folder least laid
needs_text folder least laid number c naming late spelled above = record {
  number = number;
  newest = open_is_newest folder number c spelled above;
  late = late;
  names = λ d start check.
      names_alike naming.files folder least c d naming.left start.base.items naming.opened start.opened naming.numbered naming.right check.means.right (same_text (check_bytes d) (check_bytes c) (sym check.spelled ∙ spelled)) naming.names;
}

-- a checkpoint means the same in a folder of the same log files
moved_check : (files folder : Files) (number : ℕ) (c : CheckText) (start : Start) → ((n : ℕ) → folder (Log n) ≡ files (Log n)) → folder (Check number) ≡ files (Check number) → IsCheck files number c start → IsCheck folder number c start
moved_check files folder number c start logs same check = check_elsewhere files folder 0 number c start (λ n low. logs n) (names_all c) same check

-- checkpoints that are the same in two folders from the newest one on
same_needs : (files folder : Files) (least laid : ℕ) (needs : NeedsFrom files least laid) → ((n : ℕ) → needs.number ≤ n → folder (Check n) ≡ files (Check n)) → ((c : CheckText) (start : Start) → IsCheck folder needs.number c start → IsCheck files needs.number c start) → NeedsFrom folder least laid
same_needs files folder least laid needs same checks = record {
  number = needs.number;
  newest = (
    subst (λ (file : Option (List ℕ)). IsSomeAnd file (λ bytes. IsPassed bytes → ⊥)) (sym (same needs.number (omega arith))) needs.newest.0,
    λ n high. subst IsPassedFile (sym (same n (omega (arith, high)))) (needs.newest.1 n high),
  );
  late = needs.late;
  names = λ c start check. needs.names c start (checks c start check);
}

-- fewer checkpoints may be left
pub needed_less : (t u : Told) (least laid : ℕ) → ((folder : Files) → AreLeft u folder → AreLeft t folder) → AreNeeded t least laid → AreNeeded u least laid
needed_less t u least laid fewer needed folder left = needed folder (fewer folder left)

-- while a checkpoint is laid

module _ (t u : Told) (number : ℕ) (c : CheckText) (unused : AreUnused t number) (changes : Changes (Check number) (IsLaying c) 3 t u) (reads : IsImage u.now u.reads) where
  other_check : (n : ℕ) → n ≢ number → same_name (Check n) (Check number) ≡ false
  other_check n other = grind (arith, other, nat_tests)

  -- log files as reads give them, with some checkpoints
  abbrev with_checks : Files → Files
  with_checks folder (Log n) = u.reads (Log n)
  with_checks folder (Check n) = folder (Check n)

  checks_left : (folder : Files) → AreLeft u folder → IsImage u.now (with_checks folder)
  checks_left folder left (Log n) = reads (Log n)
  checks_left folder left (Check n) = left n

  -- its file is passed over, or has this text
  laying_is : (folder : Files) → AreLeft u folder → IsLaying c (folder (Check number))
  laying_is folder left =
      (changes.images.each (clock u) (with_checks folder) (clock_rises t u (OneFile t.now (Check number) (IsLaying c)) changes.images)
      (subst (λ (f : Folder). IsImage f (with_checks folder)) (sym (get_or_past u.past (clock u) u.now (omega arith))) (checks_left folder left))).file

  now_same : (n : ℕ) → n ≢ number → u.now (Check n) ≡ t.now (Check n)
  now_same n other = (changes.others (Check n) (other_check n other)).0

  none_before : (f : Files) → AreLeft t f → (n : ℕ) → number ≤ n → f (Check n) ≡ None
  none_before f left n high = as_read None (f (Check n)) (subst (λ (e : Entry). Allows e (f (Check n))) (unused n high).1 (left n))

  passed_above : (folder : Files) → AreLeft u folder → ArePassedAbove folder number
  passed_above folder left n high =
      subst IsPassedFile
      (sym (as_read None (folder (Check n)) (subst (λ (e : Entry). Allows e (folder (Check n))) (now_same n (λ is. absurd (omega (arith, high, is))) ∙ (unused n (omega (arith, high))).1) (left n)))) tt

  at : (n : ℕ) → ((n ≡ number) ⊎ (n ≢ number))
  at n =
      elim (eqb_tells n number) [
        | inl same ↦ inl same.1
        | inr other ↦ inr other.1
      ]

  -- a folder with another file of the number
  abbrev instead : Files → Option (List ℕ) → Files
  instead folder file = with_at folder (Check number) file

  there : (folder : Files) (file : Option (List ℕ)) → instead folder file (Check number) ≡ file
  there folder file = with_at_self folder (Check number) file

  elsewhere : (folder : Files) (file : Option (List ℕ)) (n : ℕ) → n ≢ number → instead folder file (Check n) ≡ folder (Check n)
  elsewhere folder file n other = with_at_other folder (Check number) (Check n) file (other_check n other)

  -- where one file of the number is passed over and so is another, a folder needs the same
  needs_instead : (files folder : Files) (least laid : ℕ) → IsPassedFile (files (Check number)) → IsPassedFile (folder (Check number)) → ((n : ℕ) → n ≢ number → folder (Check n) ≡ files (Check n))
      → ((d : CheckText) (start : Start) (m : ℕ) → m ≢ number → IsCheck folder m d start → IsCheck files m d start) → NeedsFrom files least laid → NeedsFrom folder least laid
  needs_instead files folder least laid before after same checks needs =
      let newest : IsNewest folder (Some needs.number) = passed_is_not_newest files folder number (Some needs.number) before after same needs.newest in
      let other : needs.number ≢ number = λ is. not_both (files (Check number)) before (subst (λ (m : ℕ). IsSomeAnd (files (Check m)) (λ bytes. IsPassed bytes → ⊥)) is needs.newest.0) in
      record { number = needs.number; newest = newest; late = needs.late; names = λ d start check. needs.names d start (checks d start needs.number other check) }

  -- Once its text alone may be left, it is needed, with the files that it names.
  pub needed_laid : (least : ℕ) → IsNaming least c → u.now (Check number) ≡ settle_entry (Some (1 ∷ check_bytes c)) → AreNeeded u least number
  needed_laid least naming is folder left =
      needs_text folder least number number c naming (omega arith) (as_read (Some (1 ∷ check_bytes c)) (folder (Check number)) (subst (λ (e : Entry). Allows e (folder (Check number))) is (left number))) (passed_above folder left)

  -- What was needed is needed still, if the text names no other files.
  pub needed_laying : (least laid : ℕ) → IsImage t.now t.reads → AreNeeded t least laid → IsNaming least c → AreNeeded u least laid
  needed_laying least laid was needed naming folder left = from (laying_is folder left)
    where
      files : Files
      files = instead folder None

      before : AreLeft t files
      before n = by (at n)
        where
          by : ((n ≡ number) ⊎ (n ≢ number)) → Allows (t.now (Check n)) (files (Check n))
          by (inl same) =
              subst (λ (m : ℕ). Allows (t.now (Check m)) (files (Check m))) (sym same)
              (subst (λ (o : Option (List ℕ)). Allows (t.now (Check number)) o) (sym (there folder None)) (subst (λ (e : Entry). Allows e None) (sym (unused number (omega arith)).1) tt))
          by (inr other) = subst (λ (o : Option (List ℕ)). Allows (t.now (Check n)) o) (sym (elsewhere folder None n other)) (subst (λ (e : Entry). Allows e (folder (Check n))) (now_same n other) (left n))

      late : laid ≤ number
      late =
          let needs = needed t.reads (λ n. was (Check n)) in
          elim (cases_lt needs.number number) [
            | inl less ↦ omega (arith, less, needs.late)
            | inr more ↦ absurd (subst (λ (o : Option (List ℕ)). IsSomeAnd o (λ bytes. IsPassed bytes → ⊥)) (unused needs.number more).0 needs.newest.0)
          ]

      from : IsLaying c (folder (Check number)) → NeedsFrom folder least laid
      from (inl passed) =
          needs_instead files folder least laid (subst IsPassedFile (sym (there folder None)) tt) passed (λ n other. sym (elsewhere folder None n other))
          (λ d start m other check. moved_check folder files m d start (λ n. refl) (elsewhere folder None m other) check) (needed files before)
      from (inr spelled) = needs_text folder least laid number c naming late spelled (passed_above folder left)

  -- What is needed then was needed before, or the text names no other files.
  pub needed_before : (least laid : ℕ) → ((spelled : u.reads (Check number) ≡ Some (1 ∷ check_bytes c)) → (start : Start) × IsCheck u.reads number c start) → AreNeeded u least laid → NamesFrom least c ⊎ AreNeeded t least laid
  needed_before least laid stands needed = from (laying_is u.reads (λ n. reads (Check n)))
    where
      named : u.reads (Check number) ≡ Some (1 ∷ check_bytes c) → NamesFrom least c
      named spelled =
          let needs = needed u.reads (λ n. reads (Check n)) in
          let one : needs.number ≡ number =
          one_number needs.number number (one_newest u.reads (Some needs.number) (Some number) needs.newest (open_is_newest u.reads number c spelled (passed_above u.reads (λ n. reads (Check n))))) in
          let check = stands spelled in
          needs.names c check.0 (subst (λ (m : ℕ). IsCheck u.reads m c check.0) (sym one) check.1)

      before : IsPassedFile (u.reads (Check number)) → AreNeeded t least laid
      before passed files left =
          let folder : Files = instead files (u.reads (Check number)) in
          let now : AreLeft u folder = λ n. allowed folder files left n refl (at n) in
          needs_instead folder files least laid (subst IsPassedFile (sym (there files (u.reads (Check number)))) passed) (subst IsPassedFile (sym (none_before files left number (omega arith))) tt)
          (λ n other. sym (elsewhere files (u.reads (Check number)) n other))
          (λ d start m other check. moved_check files folder m d start (λ n. refl) (elsewhere files (u.reads (Check number)) m other) check) (needed folder now)
        where
          allowed : (folder files : Files) → AreLeft t files → (n : ℕ) → folder ≡ instead files (u.reads (Check number)) → ((n ≡ number) ⊎ (n ≢ number)) → Allows (u.now (Check n)) (folder (Check n))
          allowed folder files left n is (inl same) =
              subst (λ (m : ℕ). Allows (u.now (Check m)) (folder (Check m))) (sym same)
              (subst (λ (o : Option (List ℕ)). Allows (u.now (Check number)) o) (sym (ap (λ (f : Files). f (Check number)) is ∙ there files (u.reads (Check number)))) (reads (Check number)))
          allowed folder files left n is (inr other) =
              subst (λ (o : Option (List ℕ)). Allows (u.now (Check n)) o) (sym (ap (λ (f : Files). f (Check n)) is ∙ elsewhere files (u.reads (Check number)) n other))
              (subst (λ (e : Entry). Allows e (files (Check n))) (sym (now_same n other)) (left n))

      from : IsLaying c (u.reads (Check number)) → NamesFrom least c ⊎ AreNeeded t least laid
      from (inl passed) = inr (before passed)
      from (inr spelled) = inl (named spelled)

-- after a prune

module _ (t u : Told) (least laid : ℕ) (keeps : KeepsFrom least laid t u) (needed : AreNeeded t least laid) where
  -- checkpoints from a number on of one folder, and the others of another
  abbrev mixed_checks : Files → Files → Files
  mixed_checks folder other (Log n) = folder (Log n)
  mixed_checks folder other (Check n) = if nat_le laid n then folder (Check n) else other (Check n)

  mixed_same : (folder other : Files) (n : ℕ) → laid ≤ n → mixed_checks folder other (Check n) ≡ folder (Check n)
  mixed_same folder other n low = ap (λ (is : Bool). cond is (folder (Check n)) (other (Check n))) (let is : nat_le laid n ≡ true = grind (arith, low, nat_tests) in is)

  mixed_left : (folder other : Files) (w v : Told) → ((n : ℕ) → laid ≤ n → Allows (w.now (Check n)) (folder (Check n))) → ((n : ℕ) → Allows (w.now (Check n)) (other (Check n))) → AreLeft w (mixed_checks folder other)
  mixed_left folder other w v high low n = from (nat_le laid n) refl
    where
      from : (b : Bool) → nat_le laid n ≡ b → Allows (w.now (Check n)) (cond b (folder (Check n)) (other (Check n)))
      from true is = high n (grind (arith, is, nat_tests))
      from false is = low n

  -- A folder whose checkpoints from the newest one on are those of another needs what that needs.
  needs_mixed : (folder other : Files) (a n : ℕ) → NeedsFrom (mixed_checks folder other) least laid → NeedsFrom (mixed_checks folder other) a n → NeedsFrom folder a n
  needs_mixed folder other a n late needs =
      let one : needs.number ≡ late.number = one_number needs.number late.number (one_newest (mixed_checks folder other) (Some needs.number) (Some late.number) needs.newest late.newest) in
      same_needs (mixed_checks folder other) folder a n needs (λ m high. sym (mixed_same folder other m (omega (arith, high, one, late.late))))
      (λ d start check. moved_check folder (mixed_checks folder other) needs.number d start (λ k. refl) (mixed_same folder other needs.number (omega (arith, one, late.late))) check)

  -- What was needed is needed still.
  pub needed_pruned : (a n : ℕ) → IsImage t.now t.reads → AreNeeded t a n → AreNeeded u a n
  needed_pruned a n was needs folder left =
      let before : AreLeft t (mixed_checks folder t.reads) = mixed_left folder t.reads t u (λ m high. subst (λ (e : Entry). Allows e (folder (Check m))) (keeps.same (Check m) high).0 (left m)) (λ m. was (Check m)) in
      needs_mixed folder t.reads a n (needed (mixed_checks folder t.reads) before) (needs (mixed_checks folder t.reads) before)

  -- What is needed then was needed before.
  pub needed_unpruned : (a n : ℕ) → IsImage u.now u.reads → AreNeeded u a n → AreNeeded t a n
  needed_unpruned a n now needs folder left =
      let after : AreLeft u (mixed_checks folder u.reads) = mixed_left folder u.reads u t (λ m high. subst (λ (e : Entry). Allows e (folder (Check m))) (sym (keeps.same (Check m) high).0) (left m)) (λ m. now (Check m)) in
      let late : NeedsFrom folder least laid = needed folder left in
      let one : (needs (mixed_checks folder u.reads) after).number ≡ late.number = from after late in
      same_needs (mixed_checks folder u.reads) folder a n (needs (mixed_checks folder u.reads) after) (λ m high. sym (mixed_same folder u.reads m (omega (arith, high, one, late.late))))
      (λ d start check. moved_check folder (mixed_checks folder u.reads) _ d start (λ k. refl) (mixed_same folder u.reads _ (omega (arith, one, late.late))) check)
    where
      from : (after : AreLeft u (mixed_checks folder u.reads)) (late : NeedsFrom folder least laid) → (needs (mixed_checks folder u.reads) after).number ≡ late.number
      from after late =
          let it = needs (mixed_checks folder u.reads) after in
          let there : IsNewest (mixed_checks folder u.reads) (Some late.number) = (
            subst (λ (file : Option (List ℕ)). IsSomeAnd file (λ bytes. IsPassed bytes → ⊥)) (sym (mixed_same folder u.reads late.number late.late)) late.newest.0,
            λ m high. subst IsPassedFile (sym (mixed_same folder u.reads m (omega (arith, high, late.late)))) (late.newest.1 m high),
          ) in
          one_number it.number late.number (one_newest (mixed_checks folder u.reads) (Some it.number) (Some late.number) it.newest there)
