-- What the status 0 of a run says of its parts.
use Rattle.std.proofs.Common.{◌≡◌, ◌==◌, ◌||◌, ◌++◌, ℕ, List, [], ◌∷◌, Bool, true, false, cond, Result, Ok, Err, map, refl, true≢false, arith}
use Rattle.std.specs.List.{AllByRecursion, list_any}
use Rattle.channel_face.specs.declared.replies.OpenCause.{OpenCause}
use Rattle.channel_face.specs.declared.replies.OpenCause.TheVariants as cause
use Rattle.agent_end.specs.Statuses.{drain_status, first_in, input_status, mend_status, report_status, run_status, statuses}
use Rattle.agent_end.specs.declared.ends.ReportRefused.{ReportRefused}
use Rattle.agent_end.specs.declared.ends.ReportRefused.TheVariants as report
use Rattle.agent_end.specs.declared.ends.RunEnds.{RunEnds}

-- none of these is this status
abbrev IsNone : ℕ → List ℕ → Type 0
IsNone status there = list_any (λ n. n == status) there ≡ false

none_of : (status : ℕ) (order there : List ℕ) → (status ≡ 0 → ⊥) → first_in (status ∷ order) there ≡ 0 → IsNone status there × (first_in order there ≡ 0)
none_of status order there not zero = by (list_any (λ n. n == status) there) refl zero
  where
    by : (b : Bool) → list_any (λ n. n == status) there ≡ b → cond b status (first_in order there) ≡ 0 → IsNone status there × (first_in order there ≡ 0)
    by true is z = absurd (not z)
    by false is z = (is, z)

neither : (a b : Bool) → (a || b) ≡ false → (a ≡ false) × (b ≡ false)
neither true b is = absurd (true≢false is)
neither false b is = (refl, is)

-- none of the statuses of parts that did not end well is there
record AreNone (there : List ℕ) : Type 0 where
  four : IsNone 4 there
  three : IsNone 3 there
  five : IsNone 5 there

are_none : (there : List ℕ) → first_in (4 ∷ 3 ∷ 5 ∷ 7 ∷ 6 ∷ []) there ≡ 0 → AreNone there
are_none there zero =
    let a = none_of 4 (3 ∷ 5 ∷ 7 ∷ 6 ∷ []) there (λ e. omega (arith, e)) zero in
    let b = none_of 3 (5 ∷ 7 ∷ 6 ∷ []) there (λ e. omega (arith, e)) a.1 in
    let c = none_of 5 (7 ∷ 6 ∷ []) there (λ e. omega (arith, e)) b.1 in
    record { four = a.0; three = b.0; five = c.0 }

behind_one : (n : ℕ) (there : List ℕ) → AreNone (n ∷ there) → AreNone there
behind_one n there none = record {
  four = (neither (n == 4) (list_any (λ m. m == 4) there) none.four).1;
  three = (neither (n == 3) (list_any (λ m. m == 3) there) none.three).1;
  five = (neither (n == 5) (list_any (λ m. m == 5) there) none.five).1;
}

behind_some : (front there : List ℕ) → AreNone (front ++ there) → AreNone there
behind_some [] there none = none
behind_some (n ∷ front) there none = behind_some front there (behind_one n (front ++ there) none)

report_well : (r : Result (Unit {0}) ReportRefused) (there : List ℕ) → AreNone (report_status r ∷ there) → r ≡ Ok tt
report_well (Ok done) there none = refl
report_well (Err report.Fault) there none = absurd (true≢false none.three)
report_well (Err report.NoMemory) there none = absurd (true≢false none.five)

-- a mend that found the channel whole, or left it so
abbrev pub IsWell : Result Bool OpenCause → Type 0
IsWell mended = (reopened : Bool) × (mended ≡ Ok reopened)

mend_well : (m : Result Bool OpenCause) (there : List ℕ) → AreNone (mend_status m ∷ there) → IsWell m
mend_well (Ok reopened) there none = (reopened, refl)
mend_well (Err cause.DiskFault) there none = absurd (true≢false none.three)
mend_well (Err cause.NoMemory) there none = absurd (true≢false none.five)
mend_well (Err (cause.BadCheck file at)) there none = absurd (true≢false none.four)
mend_well (Err (cause.BadLog file at)) there none = absurd (true≢false none.four)
mend_well (Err (cause.OverCapacity count)) there none = absurd (true≢false none.four)
mend_well (Err (cause.Spent counter)) there none = absurd (true≢false none.four)

mends_well : (ms : List (Result Bool OpenCause)) → AreNone (map mend_status ms) → AllByRecursion IsWell ms
mends_well [] none = tt
mends_well (m ∷ ms) none = (mend_well m (map mend_status ms) none, mends_well ms (behind_one (mend_status m) (map mend_status ms) none))

module _ (run : RunEnds) (zero : run_status run ≡ 0) where
  all_well : AreNone (statuses run)
  all_well = are_none (statuses run) zero

  reported : AreNone (report_status run.report ∷ map drain_status run.drains.items ++ map mend_status run.mends.items)
  reported = behind_one (input_status run.input) (report_status run.report ∷ map drain_status run.drains.items ++ map mend_status run.mends.items) all_well

  -- the report was written
  pub was_reported : run.report ≡ Ok tt
  was_reported = report_well run.report (map drain_status run.drains.items ++ map mend_status run.mends.items) reported

  -- and no channel was left broken
  pub were_mended : AllByRecursion IsWell run.mends.items
  were_mended = mends_well run.mends.items (behind_some (map drain_status run.drains.items) (map mend_status run.mends.items)
      (behind_one (report_status run.report) (map drain_status run.drains.items ++ map mend_status run.mends.items) reported))
