-- A checkpoint that was read to its end, or to its first fault.
use Rattle.std.specs.Prelude.{IsSome, IsSomeAnd, None, Option, Some}
use Rattle.std.proofs.Common.{inl, inr, ◌≡◌, ◌≤◌, ◌+◌, ◌∷◌, [], ℕ, List, length, drop, min, refl, sym, ap, subst, ◌∙◌, arith}
use Rattle.std.proofs.lemmas.Bool.Decides.{eqb_tells}
use Rattle.std.proofs.lemmas.List.{length-drop}
use Rattle.flume_host.specs.Folder.{Files}
use Rattle.flume_host.specs.Told.{Told, WhereTold}
use Rattle.flume_host.specs.declared.names.FileName.TheVariants.{Check}
use Rattle.checkpoint.specs.Newest.{IsNewest, IsPassed}
use Rattle.checkpoint.specs.Text.{CheckText}
use Rattle.checkpoint.specs.declared.place.Next.{Next}
use Rattle.checkpoint.specs.declared.place.Place.{Place}
use Rattle.checkpoint_reading.specs.Draft.{IsFresh, IsOf}
use Rattle.checkpoint_reading.specs.declared.draft.Draft.{Draft}
use Rattle.checkpoint_reading.specs.Fields.{Bad, End, Gives, Good, IsFault, ListsGive, Outcome, bytes_of, check_file}
use Rattle.checkpoint_reading.specs.Newest.{IsNewestOf, IsRead}
use Rattle.checkpoint_reading.specs.Opens.{HasRead, check_of}
use Rattle.checkpoint_reading.specs.Reader.{Faults, Goes, Holds, IsHeld, IsSameFile, Reader, WhereBad, rest}
use Rattle.checkpoint_reading.specs.declared.refused.CheckReadRefused.{CheckReadRefused}
use Rattle.checkpoint_reading.specs.declared.refused.CheckReadRefused.TheVariants.{BadCheck, DiskFault, NoMemory}
use Rattle.checkpoint_reading.proofs.Holding.{Tells}
use Rattle.checkpoint_reading.proofs.Sound.{read_is_right}

-- The bytes of a file that is not passed over.
record Counts (file : Option (List ℕ)) : Type 0 where
  more : List ℕ
  is : file ≡ Some (1 ∷ more)

counts : (file : Option (List ℕ)) → IsSomeAnd file (λ bytes. IsPassed bytes → ⊥) → Counts file
counts None not = absurd not
counts (Some []) not = absurd (not (inl (omega arith)))
counts (Some (b ∷ more)) not = from (eqb_tells b 1)
  where
    from : Tells b 1 → Counts (Some (b ∷ more))
    from (inl same) = record { more = more; is = ap (λ (n : ℕ). Some (n ∷ more)) same.1 }
    from (inr other) = absurd (not (inr other.1))

-- what counts is there
pub counts_there : (file : Option (List ℕ)) → IsSomeAnd file (λ bytes. IsPassed bytes → ⊥) → IsSome file
counts_there None not = absurd not
counts_there (Some bytes) not = refl

-- what is after the commit byte of the newest checkpoint is what its reader begins with
begins_with : (t : Told) (number : ℕ) (start : Reader) → start.number ≡ number → start.at ≡ min start.size 1 → IsHeld t start → (c : Counts (t.reads (Check number)))
    → (check_file t.reads number ≡ 1 ∷ c.more) × (rest t start ≡ c.more)
begins_with t number start is at held c =
    let file : check_file t.reads number ≡ 1 ∷ c.more = ap bytes_of c.is in
    let here : check_file t.reads start.number ≡ 1 ∷ c.more = ap (check_file t.reads) is ∙ file in
    let one : start.at ≡ 1 = grind (arith, at, held.size, ap (λ (l : List ℕ). length l) here) in
    (file, ap (λ (n : ℕ). drop n (check_file t.reads start.number)) one ∙ ap (λ (l : List ℕ). drop 1 l) here)

none_left : (l : List ℕ) → length l ≡ 0 → l ≡ []
none_left [] none = refl
none_left (x ∷ l) none = absurd (omega (arith, none))

-- what is left at the end of the file
at_end : (t : Told) (now : Reader) → IsHeld t now → now.at ≡ now.size → rest t now ≡ []
at_end t now held end = none_left (rest t now) (omega (arith, end, held.size, length-drop now.at (check_file t.reads now.number)))

-- what was read to the end of the file is right for the folder
pub newest_read : (was later : Option Told) (number : ℕ) (start now : Reader) (d : Draft) (c : CheckText) → later ≡ was → WhereTold was (λ t. IsNewest t.reads (Some number)) → start.number ≡ number → start.at ≡ min start.size 1 → Holds later start
    → Holds later now → now.at ≡ now.size → HasRead d c → Goes later start now Gives (λ files o. End c o) → WhereTold was (λ t. IsNewestOf t.reads (Some (check_of number d)))
newest_read was later number start now d c same newest is at held held' end has goes = λ t told.
    let is_told = same ∙ told in
    let counted = counts (t.reads (Check number)) (newest t told).0 in
    let begin = begins_with t number start is at (held t is_told) counted in
    let gives : Gives t.reads (Good c) (rest t start) = goes t is_told (Good c) (inl (at_end t now (held' t is_told) end, refl)) in
    let right = read_is_right t.reads counted.more c (subst (λ (l : List ℕ). Gives t.reads (Good c) l) begin.1 gives) in (
      newest t told,
      record {
        left = right.1.left;
        opened = right.1.opened;
        stands = record { c = c; keeps = has.keeps number; spelled = counted.is ∙ ap (λ (l : List ℕ). Some (1 ∷ l)) right.0; right = right.1.right };
      },
    )

-- and where the disk shows nothing, its numbers are in order
pub what_is_read : (number : ℕ) (d : Draft) (c : CheckText) → HasRead d c → IsRead (check_of number d)
what_is_read number d c has = record { c = c; keeps = has.keeps number; ordered = has.ordered; events = has.events }

fault_at : (t : Told) (number at : ℕ) (start : Reader) → start.number ≡ number → start.at ≡ min start.size 1 → IsHeld t start → Counts (t.reads (Check number)) → at ≤ start.size
    → Gives t.reads (Bad (drop at (check_file t.reads start.number))) (rest t start) → IsFault t.reads number at
fault_at t number at start is place held counted within gives =
    let begin = begins_with t number start is place held counted in
    record {
      rest = drop at (check_file t.reads number);
      gives = subst (λ (l : List ℕ). Gives t.reads (Bad (drop at (check_file t.reads number))) l) (begin.1 ∙ sym (ap (λ (l : List ℕ). drop 1 l) begin.0))
          (subst (λ (n : ℕ). Gives t.reads (Bad (drop at (check_file t.reads n))) (rest t start)) is gives);
      place = omega (arith, within, held.size, ap (λ (n : ℕ). length (check_file t.reads n)) is, length-drop at (check_file t.reads number));
    }

-- where a fault was found, it is the first one of the newest checkpoint
pub newest_bad : (was later : Option Told) (number : ℕ) (start : Reader) (e : CheckReadRefused) → later ≡ was → WhereTold was (λ t. IsNewest t.reads (Some number)) → start.number ≡ number → start.at ≡ min start.size 1 → Holds later start
    → Faults later start Gives e → WhereBad e (λ file at. WhereTold was (λ t. IsNewest t.reads (Some file) × IsFault t.reads file at))
newest_bad was later number start DiskFault same newest is place held faults = tt
newest_bad was later number start NoMemory same newest is place held faults = tt
newest_bad was later number start (BadCheck file at) same newest is place held faults = λ t told.
    let fault = fault_at t number at start is place (held t (same ∙ told)) (counts (t.reads (Check number)) (newest t told).0) faults.1 (faults.2 t (same ∙ told)) in
    let number_is : number ≡ file = sym is ∙ sym faults.0 in
    subst (λ (n : ℕ). IsNewest t.reads (Some n) × IsFault t.reads n at) number_is (newest t told, fault)

-- bytes that are left at the end are the first fault
pub not_ended : (told : Option Told) (start now : Reader) (c : CheckText) (file at : ℕ) → file ≡ start.number → IsSameFile start now → at ≡ now.at → at ≤ now.size → (now.at ≡ now.size → ⊥) → Holds told now → Goes told start now Gives (λ files o. End c o)
    → Faults told start Gives (BadCheck file at)
not_ended told start now c file at number same place within more held goes = (
  number,
  subst (λ (k : ℕ). at ≤ k) same.size within,
  λ t is. subst (λ (k : ℕ). Gives t.reads (Bad (drop k (check_file t.reads start.number))) (rest t start)) (sym place)
      (subst (λ (k : ℕ). Gives t.reads (Bad (drop now.at (check_file t.reads k))) (rest t start)) same.number (goes t is (Bad (rest t now)) (inr (some t is, refl)))),
)
  where
    less : (a b : ℕ) → a ≤ b → (a ≡ b → ⊥) → a + 1 ≤ b
    less a b le ne = grind (arith, le, ne)

    some : (t : Told) → told ≡ Some t → 1 ≤ length (rest t now)
    some t is = omega (arith, less now.at now.size (subst (λ (k : ℕ). k ≤ now.size) place within) more, (held t is).size, length-drop now.at (check_file t.reads now.number))

-- a checkpoint of which nothing was read begins with its own place and next numbers
pub fresh_itself : (place : Place) (next : Next) (d : Draft) → IsFresh place next d → IsFresh d.place d.next d
fresh_itself place next d fresh = record { of = record { place_is = refl; next_is = refl }; empty = fresh.empty; live = fresh.live }

-- what its lists give, by the place and the next numbers that were read
pub lists_of : (told : Option Told) (a b : Reader) (place : Place) (next : Next) (d : Draft) (Behind : Files → Outcome → List ℕ → Type 0) → IsFresh place next d → Goes told a b (λ files o. ListsGive files o d.place d.next) Behind
    → Goes told a b (λ files o. ListsGive files o place next) Behind
lists_of told a b place next d Behind fresh goes =
    subst (λ (p : Place). Goes told a b (λ files o. ListsGive files o p next) Behind) fresh.of.place_is (subst (λ (n : Next). Goes told a b (λ files o. ListsGive files o d.place n) Behind) fresh.of.next_is goes)

-- and their first fault
pub lists_bad : (told : Option Told) (a : Reader) (place : Place) (next : Next) (d : Draft) (e : CheckReadRefused) → IsFresh place next d → Faults told a (λ files o. ListsGive files o d.place d.next) e → Faults told a (λ files o. ListsGive files o place next) e
lists_bad told a place next d e fresh faults =
    subst (λ (p : Place). Faults told a (λ files o. ListsGive files o p next) e) fresh.of.place_is (subst (λ (n : Next). Faults told a (λ files o. ListsGive files o d.place n) e) fresh.of.next_is faults)

-- the next transaction number is still what was read
pub some_txn : (place : Place) (next : Next) (d e : Draft) → IsFresh place next d → IsOf d.place d.next e → 1 ≤ next.txn → 1 ≤ e.next.txn
some_txn place next d e fresh of some = omega (arith, some, ap (λ (n : Next). n.txn) fresh.of.next_is, ap (λ (n : Next). n.txn) of.next_is)
