-- A log file that could not be begun is removed again, or may be.
use Rattle.std.proofs.Common.{◌≡◌, inr, ⊎_elim, ℕ, List, Option, Some, None, Result, Bool, true, false, refl, sym, subst, arith}
use Rattle.std.proofs.lemmas.List.{get_or_past}
use Rattle.flume_host.specs.Folder.{Allows, Entry, Files, Folder, Gone, IsImage, There, Unsure, remove_entry, same_name, with_at}
use Rattle.flume_host.specs.Told.{Changes, Does, Leads, On, Remove, Tells, Told, clock}
use Rattle.flume_host.specs.declared.names.Failed.{Failed}
use Rattle.flume_host.specs.declared.names.FileName.{FileName}
use Rattle.flume_host.specs.declared.names.FileName.TheVariants.{Log}
use Rattle.flume_host.proofs.Images.{same_name_is}
use Rattle.flume_host.proofs.Moments.{clock_rises}
use Rattle.flume_host.proofs.OneFile.{changes_on, with_at_other, with_at_self}
use Rattle.flume_host.proofs.Telling.{follows, tells_more}
use Rattle.channel_log.specs.Writer.{IsBlank}
use Rattle.file_channel.specs.Opened.{MayRemove}

-- files that a crash may leave, with another one that it may leave of one name
with_one : (u : Told) (name : FileName) (file : Option (List ℕ)) → IsImage u.now u.reads → Allows (u.now name) file → IsImage u.now (with_at u.reads name file)
with_one u name file reads allowed n = by (same_name n name) refl
  where
    by : (same : Bool) → same_name n name ≡ same → Allows (u.now n) (with_at u.reads name file n)
    by true is =
        let here : n ≡ name = same_name_is n name is in
        subst (λ (m : FileName). Allows (u.now m) (with_at u.reads name file m)) (sym here) (subst (λ (o : Option (List ℕ)). Allows (u.now name) o) (sym (with_at_self u.reads name file)) allowed)
    by false is = subst (λ (o : Option (List ℕ)). Allows (u.now n) o) (sym (with_at_other u.reads name n file is)) (reads n)

-- what may be left while a file is removed is what might have been left before, or no file
removed_blank : (entry : Entry) → ((file : Option (List ℕ)) → Allows entry file → IsBlank file) → (file : Option (List ℕ)) → Allows (remove_entry entry) file → IsBlank file
removed_blank Gone each file allowed = each file allowed
removed_blank (There s) each None allowed = tt
removed_blank (There s) each (Some bytes) allowed = each (Some bytes) allowed
removed_blank (Unsure s) each file allowed = each file allowed

module _ (number : ℕ) where
  abbrev Blank : Told → Told → Type 0
  Blank t u = Changes (Log number) IsBlank 1 t u

  -- whatever a crash may leave of the file now counts as empty
  now_blank : (t u : Told) → Blank t u → IsImage u.now u.reads → (file : Option (List ℕ)) → Allows (u.now (Log number)) file → IsBlank file
  now_blank t u blank reads file allowed =
      let image : Files = with_at u.reads (Log number) file in
      let left : IsImage u.now image = with_one u (Log number) file reads allowed in
      let now = subst (λ (f : Folder). IsImage f image) (sym (get_or_past u.past (clock u) u.now (omega arith))) left in
      let one = blank.images.each (clock u) image (clock_rises t u _ blank.images) now in
      subst (λ (o : Option (List ℕ)). IsBlank o) (with_at_self u.reads (Log number) file) one.file

  removed : (t u v : Told) → IsImage u.now u.reads → Blank t u → MayRemove number u v → Blank t v
  removed t u v reads blank = ⊎_elim same gone
    where
      same : v ≡ u → Blank t v
      same is = subst (λ (w : Told). Blank t w) (sym is) blank

      gone : ((result : Result (Unit {0}) Failed) × Leads (On (Log number) Remove) result u v) → Blank t v
      gone (result, leads) =
          changes_on Remove result t u v (Log number) IsBlank 1 (u.reads (Log number)) (u.now (Log number)) (record { reads = refl; left = refl }) reads tt blank leads
          (removed_blank (u.now (Log number)) (now_blank t u blank reads))

  -- A log file that was to be begun is as one that may have been, also after it was removed again.
  pub unbegun : (old mid new : Option Told) → ((u : Told) → mid ≡ Some u → IsImage u.now u.reads) → Tells old mid Blank → Tells mid new (MayRemove number) → Tells old new Blank
  unbegun old mid new reads blank may = follows old mid new Blank (MayRemove number) Blank (λ t u v first is last p q. removed t u v (reads u is) p q) blank may

  -- so it is where the file was removed after a call that changes nothing
  pub may_remove : (old mid new : Option Told) (result : Result (Unit {0}) Failed) → mid ≡ old → Does (On (Log number) Remove) result mid new → Tells old new (MayRemove number)
  may_remove old mid new result same does =
      subst (λ (o : Option Told). Tells o new (MayRemove number)) same (tells_more mid new (Leads (On (Log number) Remove) result) (MayRemove number) (λ t u first last leads. inr (result, leads)) does)
