-- What a run of `check` amounts to over a host.
use Rattle.std.proofs.Common.{◌≡◌, ◌⊎◌, inl, inr, ℕ, List, Option, Some, Result, Ok, Err, IsErr, IsErrAnd, refl, ap, subst, ◌∙◌, arith}
use Rattle.std.specs.Io.KnownBytes.{Appends}
use Rattle.flume_host.specs.Causes.{Rose}
use Rattle.flume_host.specs.HostState.{HostState, WasRead}
use Rattle.prop_text.specs.declared.fault.PropRefused.TheVariants as text
use Rattle.agent_plan.specs.declared.plan.Plan.{Plan}
use Rattle.plan_refused.specs.declared.refused.PlanRefused.TheVariants as plan
use Rattle.agent_words.specs.Statuses.{status_of}
use Rattle.agent_words.specs.declared.error.RunError.{RunError}
use Rattle.agent_words.specs.declared.error.RunError.TheVariants.{Usage, FileTooLarge, Text, NoAgent, Plan as Plan', Fault, BadCheckpoint, BadLog, OverCapacity, Spent, Damaged, NoMemory, InputTooLong, LineTooLong}
use Rattle.flume_host.specs.Writes.{Fronts}
use Rattle.agent_commands.specs.Checked.{IsConfigFault, IsPlanOf, IsAtFault, IsBeside, Checked, Judges, Lacking, PlansAgent, Unplanned, end_of, plan_line}
use Rattle.agent_commands.specs.declared.check.Planned.{Planned}

-- a fault of the bytes has the status 2, and out of memory 5
pub fault_status : (lacks : Lacking) (bytes agent : List ℕ) (e : RunError) → IsConfigFault lacks bytes agent e → (status_of e ≡ 2) ⊎ (status_of e ≡ 5)
fault_status lacks bytes agent Usage is = absurd is.2
fault_status lacks bytes agent FileTooLarge is = absurd is.2
fault_status lacks bytes agent (Text (text.NotUtf8 at)) is = inl refl
fault_status lacks bytes agent (Text (text.BadEscape line)) is = inl refl
fault_status lacks bytes agent (Text text.NoMemory) is = inr refl
fault_status lacks bytes agent (NoAgent name) is = inl refl
fault_status lacks bytes agent (Plan' plan.NoAgent) is = inl refl
fault_status lacks bytes agent (Plan' (plan.UnknownType line)) is = inl refl
fault_status lacks bytes agent (Plan' (plan.UnknownName line)) is = inl refl
fault_status lacks bytes agent (Plan' (plan.BadNumber line)) is = inl refl
fault_status lacks bytes agent (Plan' (plan.BadPattern line)) is = inl refl
fault_status lacks bytes agent (Plan' (plan.Unsupported line)) is = inl refl
fault_status lacks bytes agent (Plan' (plan.Clash line)) is = inl refl
fault_status lacks bytes agent (Plan' (plan.Missing key)) is = inl refl
fault_status lacks bytes agent (Plan' plan.NoMemory) is = inr refl
fault_status lacks bytes agent Fault is = absurd is.2
fault_status lacks bytes agent (BadCheckpoint dir file at) is = absurd is.2
fault_status lacks bytes agent (BadLog dir file at) is = absurd is.2
fault_status lacks bytes agent (OverCapacity dir count capacity) is = absurd is.2
fault_status lacks bytes agent (Spent dir) is = absurd is.2
fault_status lacks bytes agent (Damaged dir) is = absurd is.2
fault_status lacks bytes agent NoMemory is = inr refl
fault_status lacks bytes agent InputTooLong is = absurd is.2
fault_status lacks bytes agent LineTooLong is = absurd is.2

-- such a fault, by its cause
pub at_fault : (lacks : Lacking) (bytes agent : List ℕ) (e : RunError) → IsConfigFault lacks bytes agent e → status_of e ≡ 2 → IsAtFault lacks bytes agent
at_fault lacks bytes agent Usage is two = absurd is.2
at_fault lacks bytes agent FileTooLarge is two = absurd is.2
at_fault lacks bytes agent (Text (text.NotUtf8 at)) is two = inr (inl (text.NotUtf8 at, (λ e. cc), is))
at_fault lacks bytes agent (Text (text.BadEscape line)) is two = inr (inl (text.BadEscape line, (λ e. cc), is))
at_fault lacks bytes agent (Text text.NoMemory) is two = absurd (omega (arith, two))
at_fault lacks bytes agent (NoAgent name) is two = inr (inr (is.0, is.1, inl (plan.NoAgent, (λ e. cc), is.2.0)))
at_fault lacks bytes agent (Plan' plan.NoAgent) is two = absurd is.2
at_fault lacks bytes agent (Plan' (plan.UnknownType line)) is two = elim is.2 [
  | inl refused ↦ inr (inr (is.0, is.1, inl (plan.UnknownType line, (λ e. cc), refused)))
  | inr plugin ↦ inr (inr (is.0, is.1, inr (line, plugin)))
]
at_fault lacks bytes agent (Plan' (plan.UnknownName line)) is two = inr (inr (is.0, is.1, inl (plan.UnknownName line, (λ e. cc), is.2)))
at_fault lacks bytes agent (Plan' (plan.BadNumber line)) is two = inr (inr (is.0, is.1, inl (plan.BadNumber line, (λ e. cc), is.2)))
at_fault lacks bytes agent (Plan' (plan.BadPattern line)) is two = inr (inr (is.0, is.1, inl (plan.BadPattern line, (λ e. cc), is.2)))
at_fault lacks bytes agent (Plan' (plan.Unsupported line)) is two = inr (inr (is.0, is.1, inl (plan.Unsupported line, (λ e. cc), is.2)))
at_fault lacks bytes agent (Plan' (plan.Clash line)) is two = inr (inr (is.0, is.1, inl (plan.Clash line, (λ e. cc), is.2)))
at_fault lacks bytes agent (Plan' (plan.Missing key)) is two = inr (inr (is.0, is.1, inl (plan.Missing key, (λ e. cc), is.2)))
at_fault lacks bytes agent (Plan' plan.NoMemory) is two = absurd (omega (arith, two))
at_fault lacks bytes agent Fault is two = absurd is.2
at_fault lacks bytes agent (BadCheckpoint dir file at) is two = absurd is.2
at_fault lacks bytes agent (BadLog dir file at) is two = absurd is.2
at_fault lacks bytes agent (OverCapacity dir count capacity) is two = absurd is.2
at_fault lacks bytes agent (Spent dir) is two = absurd is.2
at_fault lacks bytes agent (Damaged dir) is two = absurd is.2
at_fault lacks bytes agent NoMemory is two = absurd (omega (arith, two))
at_fault lacks bytes agent InputTooLong is two = absurd is.2
at_fault lacks bytes agent LineTooLong is two = absurd is.2

-- nothing was written
pub unwritten : (lacks : Lacking) (file : Option (List ℕ)) (agent : List ℕ) (old new : HostState) (status : ℕ) → IsBeside old new → new.output ≡ old.output → (status ≡ 2) ⊎ (status ≡ 3) ⊎ (status ≡ 5)
    → (status ≡ 2 → (bytes : List ℕ) → file ≡ Some bytes → IsAtFault lacks bytes agent) → (status ≡ 3 → Rose old.faults new.faults) → ((status ≡ 2) ⊎ (status ≡ 5) → new.faults ≡ old.faults)
    → Checked lacks file agent old new status
unwritten lacks file agent old new status rest output which fault rose well = record {
  done = λ is. absurd (not_zero is which);
  fault = fault;
  quiet = λ is. output;
  stopped = rose;
  front = λ is. inl output;
  handed = λ is. absurd (not_zero is which);
  well = λ is. elim is [ inl zero ↦ absurd (not_zero zero which) | inr more ↦ well more ];
  rest = rest;
}
  where
    not_zero : status ≡ 0 → (status ≡ 2) ⊎ (status ≡ 3) ⊎ (status ≡ 5) → ⊥
    not_zero is (inl a) = omega arith
    not_zero is (inr (inl b)) = omega arith
    not_zero is (inr (inr c)) = omega arith

-- the plan's line was written
pub written : (lacks : Lacking) (file : Option (List ℕ)) (agent : List ℕ) (old new : HostState) (p : Plan) → IsBeside old new → new.faults ≡ old.faults → new.handed ≡ new.output
    → IsPlanOf lacks file agent p → Appends old.output new.output (plan_line agent p) → Checked lacks file agent old new 0
written lacks file agent old new p rest well handed is whole = record {
  done = λ _. (p, is, whole);
  fault = λ two. absurd (omega arith);
  quiet = λ which. absurd (elim which [ inl a ↦ omega arith | inr b ↦ omega arith ]);
  stopped = λ three. absurd (omega arith);
  front = λ three. absurd (omega arith);
  handed = λ _. handed;
  well = λ _. well;
  rest = rest;
}

-- a front of the plan's line was written
pub cut_off : (lacks : Lacking) (file : Option (List ℕ)) (agent : List ℕ) (old new : HostState) (p : Plan) → IsBeside old new → Rose old.faults new.faults
    → IsPlanOf lacks file agent p → Fronts old.output new.output old.faults new.faults (plan_line agent p) → Checked lacks file agent old new 3
cut_off lacks file agent old new p rest rose is front = record {
  done = λ zero. absurd (omega arith);
  fault = λ two. absurd (omega arith);
  quiet = λ which. absurd (elim which [ inl a ↦ omega arith | inr b ↦ omega arith ]);
  stopped = λ _. rose;
  front = λ _. inr (p, is, front);
  handed = λ zero. absurd (omega arith);
  well = λ which. absurd (elim which [ inl a ↦ omega arith | inr more ↦ elim more [ inl b ↦ omega arith | inr c ↦ omega arith ] ]);
  rest = rest;
}

-- what the file holds was judged
pub judged : {K B : Type 0} (lacks : Lacking) (file : Option (List ℕ)) (agent : List ℕ) (s0 s1 : HostState) (n : ℕ) (bytes : List ℕ) (r : Result (Planned K B) RunError) → s1 ≡ record s0 { faults = n }
    → WasRead file s0.faults n bytes → Judges lacks bytes agent r → PlansAgent lacks file agent s0 s1 r
judged lacks file agent s0 s1 n bytes (Ok p) opened read is =
    ((bytes, read.few, is, read.whole), opened ∙ ap (λ (m : ℕ). record s0 { faults = m }) read.well)
judged lacks file agent s0 s1 n bytes (Err e) opened read is = record {
  which = elim (fault_status lacks bytes agent e is) [ inl two ↦ inl two | inr five ↦ inr (inr five) ];
  fault = λ two told e_is. subst (λ (b : List ℕ). IsAtFault lacks b agent) (read.whole told e_is) (at_fault lacks bytes agent e is two);
  stopped = λ three. absurd (elim (fault_status lacks bytes agent e is) [ inl two ↦ omega (arith, two, three) | inr five ↦ omega (arith, five, three) ]);
  well = λ which. ap (λ (s : HostState). s.faults) opened ∙ read.well;
  state = (n, opened);
}

-- there is no plan, and nothing was written
pub unplanned : (lacks : Lacking) (file : Option (List ℕ)) (agent : List ℕ) (s0 s1 : HostState) (status : ℕ) → Unplanned lacks file agent s0 s1 status → Checked lacks file agent s0 s1 status
unplanned lacks file agent s0 s1 status is =
    unwritten lacks file agent s0 s1 status
    (record {
      input = ap (λ (s : HostState). s.input) is.state.1;
      files = ap (λ (s : HostState). s.files) is.state.1;
      disks = ap (λ (s : HostState). s.disk_faults) is.state.1;
    })
    (ap (λ (s : HostState). s.output) is.state.1) is.which is.fault is.stopped is.well

-- memory ran out once the plan was made, and nothing was written
pub out_of_memory : (lacks : Lacking) (file : Option (List ℕ)) (agent : List ℕ) (s0 s1 : HostState) (status : ℕ) → status ≡ 5 → s1 ≡ s0 → Checked lacks file agent s0 s1 status
out_of_memory lacks file agent s0 s1 status five same =
    unwritten lacks file agent s0 s1 status
    (record {
      input = ap (λ (s : HostState). s.input) same;
      files = ap (λ (s : HostState). s.files) same;
      disks = ap (λ (s : HostState). s.disk_faults) same;
    })
    (ap (λ (s : HostState). s.output) same) (inr (inr five)) (λ two. absurd (omega (arith, two, five))) (λ three. absurd (omega (arith, three, five)))
    (λ which. ap (λ (s : HostState). s.faults) same)

-- From the host before the file was read, to the host that was printed on.
module _ (lacks : Lacking) (file : Option (List ℕ)) (agent : List ℕ) (s0 s1 s2 : HostState) (text : List ℕ) (p : Plan)
    (planned : IsPlanOf lacks file agent p) (same : s1 ≡ s0) (line : text ≡ plan_line agent p) (beside : IsBeside s1 s2) where
  rest : IsBeside s0 s2
  rest = subst (λ (s : HostState). IsBeside s s2) same beside

  -- the plan's whole line was written, with the status 0
  pub printed : s2.faults ≡ s1.faults → s2.handed ≡ s2.output → Appends s1.output s2.output text → Checked lacks file agent s0 s2 0
  printed well handed whole =
      let A : HostState × List ℕ → Type 0 = λ x. Appends x.0.output s2.output x.1 in
      written lacks file agent s0 s2 p rest (well ∙ ap (λ (s : HostState). s.faults) same) handed planned (subst A (λ i. (same i, line i)) whole)

  -- the output failed after a front of the plan's line, with the status 3
  pub printed_part : Rose s1.faults s2.faults → Fronts s1.output s2.output s1.faults s2.faults text → Checked lacks file agent s0 s2 3
  printed_part rose front =
      let F : HostState × List ℕ → Type 0 = λ x. Fronts x.0.output s2.output x.0.faults s2.faults x.1 in
      cut_off lacks file agent s0 s2 p rest (subst (λ (s : HostState). Rose s.faults s2.faults) same rose) planned
      (subst F (λ i. (same i, line i)) front)

-- the error that a call handed on
pub handed_on : (r : Result (Unit {0}) RunError) (P : RunError → Type 0) → IsErr r → IsErrAnd r P → (e : RunError) × P e × (end_of r ≡ status_of e)
handed_on (Ok done) P is and = cc
handed_on (Err e) P is and = (e, and, refl)
