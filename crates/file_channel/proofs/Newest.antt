-- The newest checkpoint of a folder that was opened is needed, and no pointer is into a file before those that it names.
use Rattle.std.proofs.Common.{◌⊎◌, inl, inr, ◌≡◌, ◌<◌, ◌≤◌, ◌^◌, ℕ, List, Option, Some, None, refl, sym, ◌∙◌, subst, arith}
use Rattle.std.specs.Prelude.{IfSome, IsSome, IsSomeAnd}
use Rattle.std.specs.List.{AllByRecursion}
use Rattle.std.proofs.lemmas.Bool.{cases_lt}
use Rattle.flume_host.specs.Folder.{Allows, Entry, Files, settle_entry}
use Rattle.flume_host.specs.Told.{Settle, Tells, Told, WhereTold, done}
use Rattle.flume_host.specs.declared.names.FileName.TheVariants.{Check, Log}
use Rattle.flume_host.proofs.Telling.{back}
use Rattle.event_core.specs.Content.{Content}
use Rattle.event_ring.specs.Slots.{Left}
use Rattle.record_form.specs.declared.record.Pointer.{Pointer}
use Rattle.channel_places.specs.Looks.{Known, StandsIn}
use Rattle.channel_writing.specs.Folders.{IsNextFile}
use Rattle.channel_writing.proofs.Flushing.{as_read}
use Rattle.channel_writing.proofs.Opening.{BeginsFile, SettledAs}
use Rattle.checkpoint.specs.Newest.{IsNewest, IsPassedFile}
use Rattle.checkpoint_recovery.specs.Laws.{NamesFrom}
use Rattle.checkpoint_recovery.specs.Recovers.{IsCheck}
use Rattle.checkpoint_recovery.proofs.Elsewhere.{one_newest}
use Rattle.checkpoint_opening.specs.Opening.{IsNamed, IsOpened}
use Rattle.checkpoint_opening.specs.declared.opening.NewestCheck.{NewestCheck}
use Rattle.ring_replay.specs.declared.folder.Replayed.{Replayed}
use Rattle.channel_laying.specs.Laying.{AreNeeded}
use Rattle.channel_laying.proofs.Naming.{AreNumbered}
use Rattle.channel_laying.proofs.Needed.{AreLeft, needs_text}
use Rattle.file_channel.specs.Laid.{IsNeeded, IsNewestNamed}
use Rattle.file_channel.specs.Placed.{AreNeeding, AreNotBelow}

-- log files before the next one have numbers of 32 bits
next_numbered : (files : Files) (number : ℕ) → IsNextFile files number → AreNumbered files
next_numbered files number next n there = from (cases_lt n number)
  where
    none_some : (o : Option (List ℕ)) → o ≡ None → IsSome o → ⊥
    none_some o none some = cc

    from : ((n < number) ⊎ (number ≤ n)) → n < 2 ^ 32
    from (inl less) = omega (arith, less, next.small)
    from (inr more) = absurd (none_some (files (Log n)) (next.none n more) there)

-- the place of a checkpoint is in a file before the next one
place_before : (files : Files) (number n : ℕ) (P : List ℕ → Type 0) → IsNextFile files number → IsSomeAnd (files (Log n)) P → n < number
place_before files number n P next is = from (cases_lt n number)
  where
    from : ((n < number) ⊎ (number ≤ n)) → n < number
    from (inl less) = less
    from (inr more) = absurd (subst (λ (o : Option (List ℕ)). IsSomeAnd o P) (next.none n more) is)

one_number : (a b : ℕ) → Some a ≡ Some b → a ≡ b
one_number a b is = cc

-- what a crash leaves of checkpoints after a folder was settled and a log file was begun is what reads gave

module _ (t v : Told) (number : ℕ) (begins : BeginsFile number (done Settle t) v) where
  -- after a log file was begun, a crash leaves of the checkpoints what reads gave
  pub read_left : AreLeft v t.reads
  read_left n = subst (λ (e : Entry). Allows e (t.reads (Check n))) (sym (begins.others (Check n) refl).0) (settled_allows (t.reads (Check n)))
    where
      stable_may : (bytes : List ℕ) → Allows (settle_entry (Some bytes)) (Some bytes)
      stable_may bytes = record { no_shorter = omega arith; no_longer = omega arith; same = λ i low clear. refl }

      settled_allows : (o : Option (List ℕ)) → Allows (settle_entry o) o
      settled_allows None = tt
      settled_allows (Some bytes) = stable_may bytes

  -- so each folder that a crash leaves has the checkpoints that were read
  pub left_read : (folder : Files) → AreLeft v folder → (n : ℕ) → folder (Check n) ≡ t.reads (Check n)
  left_read folder left n = as_read (t.reads (Check n)) (folder (Check n)) (subst (λ (e : Entry). Allows e (folder (Check n))) (begins.others (Check n) refl).0 (left n))

  -- what is needed then is from the least file on that the checkpoint names
  pub needing_then : (check : Option NewestCheck) (r : Replayed) (known : Known) → IsNextFile t.reads number → IsOpened t.reads (record { check = check; replayed = r })
      → ((least : ℕ) → AllByRecursion (λ (l : Left). least ≤ l.pointer.file) r.ring.live → (p : Pointer) (event : Content) → StandsIn known p event → least ≤ p.file) → (least laid : ℕ) → AreNeeded v least laid → AreNotBelow least number known
  needing_then None r known next o ring least laid needs = let n = needs t.reads read_left in absurd (let no : Some n.number ≡ None = one_newest t.reads (Some n.number) None n.newest o.newest in cc)
  needing_then (Some named) r known next o ring least laid needs =
      let n = needs t.reads read_left in
      let one : n.number ≡ named.number = one_number n.number named.number (one_newest t.reads (Some n.number) (Some named.number) n.newest o.newest) in
      let is = o.named in
      let names : NamesFrom least is.text = n.names is.text is.start (subst (λ (m : ℕ). IsCheck t.reads m is.text is.start) (sym one) is.is) in
      let less = is.least.most least names in
      let before = place_before t.reads number is.text.place.file _ next is.is.means.right.place in
      record { own = omega (arith, names.place, before); each = λ p event in_known. omega (arith, less, ring named.least o.from p event in_known) }

-- once a folder is settled its newest checkpoint is needed
settled_newest : (t : Told) (number : ℕ) (named : NewestCheck) → IsNextFile t.reads number → IsNewest t.reads (Some named.number) → IsNamed t.reads named → AreNeeded (done Settle t) named.least named.number
settled_newest t number named next newest is folder left =
    let same : (n : ℕ) → folder (Check n) ≡ t.reads (Check n) = λ n. as_read (t.reads (Check n)) (folder (Check n)) (left n) in
    needs_text folder named.least named.number named.number is.text
    (record { files = t.reads; left = is.start.base.items; opened = is.start.opened; right = is.is.means.right; numbered = next_numbered t.reads number next; names = is.least.names }) (omega arith)
    (same named.number ∙ is.is.spelled) (λ n high. subst IsPassedFile (sym (same n)) (newest.1 n high))

-- over what a disk shows, if it shows it

module _ (was mid now : Option Told) (number : ℕ) (settles : Tells was mid SettledAs) (begins : Tells mid now (BeginsFile number)) where
  since : (v : Told) → now ≡ Some v → (t : Told) × (was ≡ Some t) × BeginsFile number (done Settle t) v
  since v is =
      let b = back mid now (BeginsFile number) begins v is in
      let a = back was mid SettledAs settles b.0 b.1 in
      (a.0, a.1, subst (λ (u : Told). BeginsFile number u v) a.2 b.2)

  -- nothing is asked where the disk does not show its contents
  pub needing_silent : (known : Known) → ((t : Told) → was ≡ Some t → ⊥) → AreNeeding now number known
  needing_silent known none v is = let a = since v is in absurd (none a.0 a.1)

  -- no pointer is into a file before those that the newest checkpoint of the begun folder names
  pub needing_begun : (check : Option NewestCheck) (r : Replayed) → WhereTold was (λ t. IsNextFile t.reads number) → WhereTold was (λ t. IsOpened t.reads (record { check = check; replayed = r })) → (known : Known)
      → ((least : ℕ) → AllByRecursion (λ (l : Left). least ≤ l.pointer.file) r.ring.live → (p : Pointer) (event : Content) → StandsIn known p event → least ≤ p.file) → AreNeeding now number known
  needing_begun check r next opened known ring v is least laid needs =
      let a = since v is in
      needing_then a.0 v number a.2 check r known (next a.0 a.1) (opened a.0 a.1) ring least laid needs

-- the newest checkpoint of a folder is needed, once that is settled
pub settled_needed : (was now : Option Told) (check : Option NewestCheck) (number : ℕ) → Tells was now SettledAs → WhereTold was (λ t. IsNextFile t.reads number) → WhereTold was (λ t. IsNewestNamed t.reads check) → IfSome check (IsNeeded now)
settled_needed was now None number settles next newest = tt
settled_needed was now (Some named) number settles next newest = λ v is.
    let a = back was now SettledAs settles v is in
    let both = newest a.0 a.1 in
    subst (λ (u : Told). AreNeeded u named.least named.number) (sym a.2) (settled_newest a.0 number named (next a.0 a.1) both.0 both.1)

-- what an opening finds of checkpoints
pub found_named : (files : Files) (check : Option NewestCheck) (r : Replayed) → IsOpened files (record { check = check; replayed = r }) → IsNewestNamed files check
found_named files check r o = (o.newest, o.named)
