-- What a folder recovers to while a checkpoint is laid, and without the files that are not needed.
use Rattle.std.proofs.Common.{◌≡◌, ◌≢◌, ◌≤◌, [], ◌∷◌, ℕ, List, Option, Some, None, sym, subst, arith}
use Rattle.std.specs.Prelude.{IsSomeAnd}
use Rattle.std.specs.List.{AllByRecursion}
use Rattle.flume_host.specs.Folder.{Files}
use Rattle.flume_host.specs.declared.names.FileName.TheVariants.{Check}
use Rattle.event_core.specs.Journal.{Base}
use Rattle.record_form.specs.declared.record.Pointer.{Pointer}
use Rattle.channel_replay.specs.declared.line.Line.{Line}
use Rattle.channel_replay.specs.Start.{Start}
use Rattle.checkpoint.specs.Newest.{IsNewest, IsPassed, IsPassedFile}
use Rattle.checkpoint.specs.Text.{CheckText}
use Rattle.checkpoint_recovery.specs.Laws.{LaidRecovers, NamesFrom, PrunedRecovers}
use Rattle.checkpoint_recovery.specs.Recovers.{BeginsAt, From, Front, IsCheck, RecoversTo}
use Rattle.checkpoint_recovery.proofs.Elsewhere.{front_elsewhere, not_both, one_newest, passed_is_not_newest, serves_elsewhere}

-- where it begins in both folders, it recovers in both
recovers_there : (files later : Files) (left : Base) (txn : ℕ) (r : RecoversTo files left txn) → BeginsAt later r.start r.found → RecoversTo later left txn
recovers_there files later left txn r begins = record { start = r.start; found = r.found; begins = begins; stands = r.stands }

-- all files are from the first one on
pub names_all : (c : CheckText) → NamesFrom 0 c
names_all c = record { place = omega arith; live = live c.live; puts = puts c.puts }
  where
    live : (l : List (ℕ × Pointer)) → AllByRecursion (λ x. 0 ≤ x.1.file) l
    live [] = tt
    live (x ∷ l) = (omega arith, live l)

    pointers : (l : List Pointer) → AllByRecursion (λ p. 0 ≤ p.file) l
    pointers [] = tt
    pointers (p ∷ l) = (omega arith, pointers l)

    puts : (l : List (ℕ × List Pointer)) → AllByRecursion (λ o. AllByRecursion (λ p. 0 ≤ p.file) o.1) l
    puts [] = tt
    puts (o ∷ l) = (pointers o.1, puts l)

-- a folder recovers to the same while a checkpoint is laid
pub laid_recovers : LaidRecovers
laid_recovers files later n left txn same before now others r = recovers_there files later left txn r (begins r.start r.found r.begins)
  where
    begins : (start : Start) (found : List Line) → BeginsAt files start found → BeginsAt later start found
    begins start found (Front none empty all) = subst (λ (s : Start). BeginsAt later s found) (sym empty) (front_elsewhere files later found same (passed_is_not_newest files later n None before now others none) all)
    begins start found (From number c newest check lines) =
        let apart : number ≢ n = λ one. not_both (files (Check number)) (subst (λ (k : ℕ). IsPassedFile (files (Check k))) (sym one) before) newest.0 in
        serves_elsewhere files later 0 number c start found same (names_all c) (passed_is_not_newest files later n (Some number) before now others newest) (others number apart) check lines

-- a folder recovers to the same without the files that its checkpoints do not need
pub pruned_recovers : PrunedRecovers
pruned_recovers files later least laid left txn same others needs r = recovers_there files later left txn r (begins r.start r.found r.begins)
  where
    same_number : (number : ℕ) → Some needs.number ≡ Some number → needs.number ≡ number
    same_number number is = cc

    still_newest : (number : ℕ) → laid ≤ number → IsNewest files (Some number) → IsNewest later (Some number)
    still_newest number late newest = (
      subst (λ (file : Option (List ℕ)). IsSomeAnd file (λ bytes. IsPassed bytes → ⊥)) (sym (others number late)) newest.0,
      λ m above. subst IsPassedFile (sym (others m (omega (arith, late, above)))) (newest.1 m above),
    )

    begins : (start : Start) (found : List Line) → BeginsAt files start found → BeginsAt later start found
    begins start found (Front none empty all) = absurd (let no : Some needs.number ≡ None = one_newest files (Some needs.number) None needs.newest none in cc)
    begins start found (From number c newest check lines) =
        let one : needs.number ≡ number = same_number number (one_newest files (Some needs.number) (Some number) needs.newest newest) in
        let late : laid ≤ number = subst (λ (k : ℕ). laid ≤ k) one needs.late in
        let names = needs.names c start (subst (λ (k : ℕ). IsCheck files k c start) (sym one) check) in
        serves_elsewhere files later least number c start found same names (still_newest number late newest) (others number late) check lines
