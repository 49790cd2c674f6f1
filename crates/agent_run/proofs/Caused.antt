-- Which part of a run its status comes from.
use Rattle.std.proofs.Common.{◌≡◌, ◌∙◌, ◌==◌, ◌||◌, ◌<◌, ◌++◌, ◌⊎◌, inl, inr, ℕ, zero, suc, List, [], ◌∷◌, Bool, true, false, cond, Result, Ok, Err, length, map, get_or, refl, sym, ap, subst, true≢false, arith}
use Rattle.std.proofs.lemmas.Bool.Decides.{Decides-eqb}
use Rattle.std.specs.List.{list_any}
use Rattle.channel_face.specs.declared.replies.OpenCause.{OpenCause}
use Rattle.channel_face.specs.declared.replies.OpenCause.TheVariants as cause
use Rattle.sink_runner.specs.declared.turn.Turn.TheVariants as turn
use Rattle.agent_end.specs.Statuses.{drain_status, first_in, input_status, mend_status, report_status, run_status, statuses}
use Rattle.agent_end.specs.declared.draining.ChannelDrain.{ChannelDrain}
use Rattle.agent_end.specs.declared.draining.ChannelDrain.TheVariants.{Emptied, Stopped}
use Rattle.agent_end.specs.declared.ends.InputEnd.{InputEnd}
use Rattle.agent_end.specs.declared.ends.InputEnd.TheVariants as input
use Rattle.agent_end.specs.declared.ends.ReportRefused.{ReportRefused}
use Rattle.agent_end.specs.declared.ends.ReportRefused.TheVariants as report
use Rattle.agent_end.specs.declared.ends.RunEnds.{RunEnds}
use Rattle.agent_words.specs.Statuses.{cause_status}
use Rattle.agent_run.specs.Errors.{IsRunStatus}
use Rattle.agent_run.proofs.Answering.{first_of_six}

-- this status is there
abbrev pub has : ℕ → List ℕ → Bool
has status there = list_any (λ n. n == status) there

-- a status that is not 0 is there
found : (order there : List ℕ) (status : ℕ) → first_in order there ≡ status → (status ≡ 0 → ⊥) → has status there ≡ true
found [] there status is not = absurd (not (sym is))
found (one ∷ order) there status is not = by (has one there) refl is (λ same. found order there status same not)
  where
    by : (b : Bool) → has one there ≡ b → cond b one (first_in order there) ≡ status → (first_in order there ≡ status → has status there ≡ true) → has status there ≡ true
    by true here same rest = subst (λ (n : ℕ). has n there ≡ true) same here
    by false none same rest = rest same

either : (a b : Bool) → (a || b) ≡ true → (a ≡ true) ⊎ (b ≡ true)
either true b is = inl refl
either false b is = inr is

or_last : (a b : Bool) → b ≡ true → (a || b) ≡ true
or_last true b is = refl
or_last false b is = is

has_behind : (status : ℕ) (front there : List ℕ) → has status there ≡ true → has status (front ++ there) ≡ true
has_behind status [] there is = is
has_behind status (n ∷ front) there is = or_last (n == status) (has status (front ++ there)) (has_behind status front there is)

has_either : (status : ℕ) (front there : List ℕ) → has status (front ++ there) ≡ true → (has status front ≡ true) ⊎ (has status there ≡ true)
has_either status [] there is = inr is
has_either status (n ∷ front) there is = elim (either (n == status) (has status (front ++ there)) is) [
  | inl here ↦ inl (ap (λ (b : Bool). b || has status front) here)
  | inr more ↦ elim (has_either status front there more) [
    | inl in_front ↦ inl (or_last (n == status) (has status front) in_front)
    | inr behind ↦ inr behind
  ]
]

-- ---- a draining has no other status than that of out of memory

drain_is : (d : ChannelDrain) → (drain_status d ≡ 5) ⊎ (drain_status d ≡ 0)
drain_is Emptied = inr refl
drain_is (Stopped (turn.Delivered n)) = inr refl
drain_is (Stopped turn.Empty) = inr refl
drain_is (Stopped (turn.Failed why)) = inr refl
drain_is (Stopped turn.InDoubt) = inr refl
drain_is (Stopped turn.NoMemory) = inl refl

no_drain : (status : ℕ) (drains : List ChannelDrain) → (status ≡ 0 → ⊥) → (status ≡ 5 → ⊥) → has status (map drain_status drains) ≡ true → ⊥
no_drain status [] not_zero not_five is = true≢false (sym is)
no_drain status (d ∷ drains) not_zero not_five is = elim (either (drain_status d == status) (has status (map drain_status drains)) is) [
  | inl here ↦ elim (drain_is d) [
    | inl memory ↦ not_five (sym ((Decides-eqb (drain_status d) status).0 here) ∙ memory)
    | inr well ↦ not_zero (sym ((Decides-eqb (drain_status d) status).0 here) ∙ well)
  ]
  | inr more ↦ no_drain status drains not_zero not_five more
]

-- ---- a mend

-- some mend has this status
pub record SomeMend (status : ℕ) (mends : List (Result Bool OpenCause)) : Type 0 where
  pub place : ℕ
  pub below : place < length mends
  pub here : (d : Result Bool OpenCause) → mend_status (get_or mends place d) ≡ status

some_mend : (status : ℕ) (mends : List (Result Bool OpenCause)) → has status (map mend_status mends) ≡ true → SomeMend status mends
some_mend status [] is = absurd (true≢false (sym is))
some_mend status (m ∷ mends) is = elim (either (mend_status m == status) (has status (map mend_status mends)) is) [
  | inl here ↦ record { place = 0; below = omega arith; here = λ d. (Decides-eqb (mend_status m) status).0 here }
  | inr more ↦ let rest = some_mend status mends more in record { place = suc rest.place; below = let b = rest.below in omega (arith, b); here = rest.here }
]

has_mend : (status : ℕ) (mends : List (Result Bool OpenCause)) (place : ℕ) → place < length mends → ((d : Result Bool OpenCause) → mend_status (get_or mends place d) ≡ status)
    → has status (map mend_status mends) ≡ true
has_mend status [] place below here = absurd (omega (arith, below))
has_mend status (m ∷ mends) zero below here =
    let is : (mend_status m == status) ≡ true = (Decides-eqb (mend_status m) status).1 (here m) in
    ap (λ (b : Bool). b || has status (map mend_status mends)) is
has_mend status (m ∷ mends) (suc place) below here =
    or_last (mend_status m == status) (has status (map mend_status mends)) (has_mend status mends place (omega (arith, below)) here)

-- a mend has no status above 5
mend_small : (m : Result Bool OpenCause) → mend_status m < 6
mend_small (Ok mended) = omega arith
mend_small (Err cause.DiskFault) = omega arith
mend_small (Err cause.NoMemory) = omega arith
mend_small (Err (cause.BadCheck file at)) = omega arith
mend_small (Err (cause.BadLog file at)) = omega arith
mend_small (Err (cause.OverCapacity count)) = omega arith
mend_small (Err (cause.Spent counter)) = omega arith

few_mends : (status : ℕ) (mends : List (Result Bool OpenCause)) → 5 < status → SomeMend status mends → ⊥
few_mends status mends above some =
    let here = some.here (Ok false) in
    let small = mend_small (get_or mends some.place (Ok false)) in
    omega (arith, here, small, above)

-- the status of a refused mend is that of its cause
pub refused_status : (c : OpenCause) → mend_status (Err c) ≡ cause_status c
refused_status cause.DiskFault = refl
refused_status cause.NoMemory = refl
refused_status (cause.BadCheck file at) = refl
refused_status (cause.BadLog file at) = refl
refused_status (cause.OverCapacity count) = refl
refused_status (cause.Spent counter) = refl

-- of all causes only a fault of the disk has the status 3
pub disk_fault : (c : OpenCause) → cause_status c ≡ 3 → c ≡ cause.DiskFault
disk_fault cause.DiskFault is = refl
disk_fault cause.NoMemory is = absurd (omega (arith, is))
disk_fault (cause.BadCheck file at) is = absurd (omega (arith, is))
disk_fault (cause.BadLog file at) is = absurd (omega (arith, is))
disk_fault (cause.OverCapacity count) is = absurd (omega (arith, is))
disk_fault (cause.Spent counter) is = absurd (omega (arith, is))

-- ---- the input and the report

-- of all ends of the input only its fault has the status 3
pub input_fault : (i : InputEnd) → input_status i ≡ 3 → i ≡ input.Fault
input_fault input.End is = absurd (omega (arith, is))
input_fault input.Fault is = refl
input_fault input.NoMemory is = absurd (omega (arith, is))
input_fault input.LongLine is = absurd (omega (arith, is))
input_fault input.Full is = absurd (omega (arith, is))

input_held : (i : InputEnd) → input_status i ≡ 4 → ⊥
input_held input.End is = omega (arith, is)
input_held input.Fault is = omega (arith, is)
input_held input.NoMemory is = omega (arith, is)
input_held input.LongLine is = omega (arith, is)
input_held input.Full is = omega (arith, is)

input_full : (i : InputEnd) → input_status i ≡ 6 → i ≡ input.Full
input_full input.End is = absurd (omega (arith, is))
input_full input.Fault is = absurd (omega (arith, is))
input_full input.NoMemory is = absurd (omega (arith, is))
input_full input.LongLine is = absurd (omega (arith, is))
input_full input.Full is = refl

input_long : (i : InputEnd) → input_status i ≡ 7 → i ≡ input.LongLine
input_long input.End is = absurd (omega (arith, is))
input_long input.Fault is = absurd (omega (arith, is))
input_long input.NoMemory is = absurd (omega (arith, is))
input_long input.LongLine is = refl
input_long input.Full is = absurd (omega (arith, is))

report_fault : (r : Result (Unit {0}) ReportRefused) (status : ℕ) → report_status r ≡ status → (status ≡ 0 → ⊥) → (status ≡ 5 → ⊥) → (status ≡ 3) × (r ≡ Err report.Fault)
report_fault (Ok done) status is not_zero not_five = absurd (not_zero (sym is))
report_fault (Err report.Fault) status is not_zero not_five = (sym is, refl)
report_fault (Err report.NoMemory) status is not_zero not_five = absurd (not_five (sym is))

-- the part of a run that has its status
module _ (run : RunEnds) where
  -- the input, the report, or a mend has the status, unless it is 0 or out of memory
  part_with : (status : ℕ) → (status ≡ 0 → ⊥) → (status ≡ 5 → ⊥) → run_status run ≡ status
      → (input_status run.input ≡ status) ⊎ ((status ≡ 3) × (run.report ≡ Err report.Fault)) ⊎ SomeMend status run.mends.items
  part_with status not_zero not_five is =
      let drains = map drain_status run.drains.items in
      let mends = map mend_status run.mends.items in
      let all = found (4 ∷ 3 ∷ 5 ∷ 7 ∷ 6 ∷ []) (statuses run) status is not_zero in
      elim (either (input_status run.input == status) (has status (report_status run.report ∷ drains ++ mends)) all) [
        | inl here ↦ inl ((Decides-eqb (input_status run.input) status).0 here)
        | inr more ↦ elim (either (report_status run.report == status) (has status (drains ++ mends)) more) [
          | inl here ↦ inr (inl (report_fault run.report status ((Decides-eqb (report_status run.report) status).0 here) not_zero not_five))
          | inr rest ↦ elim (has_either status drains mends rest) [
            | inl drained ↦ absurd (no_drain status run.drains.items not_zero not_five drained)
            | inr mended ↦ inr (inr (some_mend status run.mends.items mended))
          ]
        ]
      ]

  -- at status 3 the input or the report failed, or a mend has this status
  pub by_fault : run_status run ≡ 3 → (run.input ≡ input.Fault) ⊎ (run.report ≡ Err report.Fault) ⊎ SomeMend 3 run.mends.items
  by_fault is = elim (part_with 3 (λ e. omega (arith, e)) (λ e. omega (arith, e)) is) [
    | inl here ↦ inl (input_fault run.input here)
    | inr more ↦ elim more [
      | inl reported ↦ inr (inl reported.1)
      | inr mended ↦ inr (inr mended)
    ]
  ]

  -- at status 4 a mend has this status
  pub by_mend : run_status run ≡ 4 → SomeMend 4 run.mends.items
  by_mend is = elim (part_with 4 (λ e. omega (arith, e)) (λ e. omega (arith, e)) is) [
    | inl here ↦ absurd (input_held run.input here)
    | inr more ↦ elim more [
      | inl reported ↦ absurd (let e = reported.0 in omega (arith, e))
      | inr mended ↦ mended
    ]
  ]

  -- at status 6 the reading ended since 2^40 bytes were read
  pub by_full : run_status run ≡ 6 → run.input ≡ input.Full
  by_full is = elim (part_with 6 (λ e. omega (arith, e)) (λ e. omega (arith, e)) is) [
    | inl here ↦ input_full run.input here
    | inr more ↦ elim more [
      | inl reported ↦ absurd (let e = reported.0 in omega (arith, e))
      | inr mended ↦ absurd (few_mends 6 run.mends.items (omega arith) mended)
    ]
  ]

  -- at status 7 the reading ended since a line was too long
  pub by_long : run_status run ≡ 7 → run.input ≡ input.LongLine
  by_long is = elim (part_with 7 (λ e. omega (arith, e)) (λ e. omega (arith, e)) is) [
    | inl here ↦ input_long run.input here
    | inr more ↦ elim more [
      | inl reported ↦ absurd (let e = reported.0 in omega (arith, e))
      | inr mended ↦ absurd (few_mends 7 run.mends.items (omega arith) mended)
    ]
  ]

  -- a channel that can't be opened any more comes before all else
  pub mend_first : SomeMend 4 run.mends.items → run_status run ≡ 4
  mend_first some =
      let drains = map drain_status run.drains.items in
      let mends = map mend_status run.mends.items in
      let there : has 4 (statuses run) ≡ true =
      has_behind 4 (input_status run.input ∷ report_status run.report ∷ drains) mends (has_mend 4 run.mends.items some.place some.below some.here) in
      ap (λ (b : Bool). cond b 4 (first_in (3 ∷ 5 ∷ 7 ∷ 6 ∷ []) (statuses run))) there

  -- what a run comes to has one of the statuses of a run
  pub is_status : IsRunStatus (run_status run)
  is_status = first_of_six (has 4 (statuses run)) (has 3 (statuses run)) (has 5 (statuses run)) (has 7 (statuses run)) (has 6 (statuses run))
