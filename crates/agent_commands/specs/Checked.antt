-- What a run of `check` has done, by its status.
use Rattle.std.specs.Prelude.{◌≡◌, ◌≢◌, ◌⊎◌, ℕ, ◌≤◌, ◌<◌, List, ◌++◌, length, reverse, codes, decimal, Option, Some, None, Result, Ok, Err, string_bytes}
use Rattle.std.specs.Io.KnownBytes.{Appends}
use Rattle.prop_text.specs.Pairs.{Pair}
use Rattle.prop_text.specs.Reads.{Reads}
use Rattle.prop_text.specs.declared.fault.PropRefused.{PropRefused}
use Rattle.prop_text.specs.declared.fault.PropRefused.TheVariants as text
use Rattle.agent_plan.specs.Plans.{Plans}
use Rattle.agent_plan.specs.declared.plan.Plan.{Plan}
use Rattle.plan_objects.specs.Asks.{AreClaimed, AreTaken, HaveObjects, step_asks}
use Rattle.plan_objects.specs.declared.handed.HandedIn.{HandedIn}
use Rattle.plan_refused.specs.declared.refused.PlanRefused.{PlanRefused}
use Rattle.plan_refused.specs.declared.refused.PlanRefused.TheVariants as plan
use Rattle.agent_words.specs.Statuses.{status_of}
use Rattle.agent_words.specs.declared.error.RunError.{RunError}
use Rattle.agent_words.specs.declared.error.RunError.TheVariants as errors
use Rattle.flume_host.specs.Causes.{Rose}
use Rattle.flume_host.specs.HostState.{HostState, file_limit}
use Rattle.flume_host.specs.Writes.{Fronts}
use Rattle.agent_commands.specs.declared.check.Planned.{Planned}

-- the least line of a plan at which something is asked for that was not handed in, if there is one
abbrev pub Lacking : Type 0
Lacking = Plan → Option ℕ

-- the agent has this plan, and all that it asks for was handed in
abbrev pub IsWhole : Lacking → List Pair → List ℕ → Plan → Type 0
IsWhole lacks pairs agent p = Plans pairs agent (Ok p) × (lacks p ≡ None)

-- the agent has a plan, and the first of what was not handed in is asked for on this line
pub record LacksObject (lacks : Lacking) (pairs : List Pair) (agent : List ℕ) (line : ℕ) : Type 0 where
  pub plan : Plan
  pub planned : Plans pairs agent (Ok plan)
  pub first : lacks plan ≡ Some line

-- why the agent has no plan, or else what was not handed in, which is of unknown type
abbrev pub IsPlanFault : Lacking → List Pair → List ℕ → RunError → Type 0
IsPlanFault lacks pairs agent (errors.NoAgent name) = Plans pairs agent (Err plan.NoAgent) × (string_bytes name ≡ agent)
IsPlanFault lacks pairs agent (errors.Plan (plan.UnknownType line)) = Plans pairs agent (Err (plan.UnknownType line)) ⊎ LacksObject lacks pairs agent line
IsPlanFault lacks pairs agent (errors.Plan plan.NoAgent) = ⊥
IsPlanFault lacks pairs agent (errors.Plan why) = Plans pairs agent (Err why)
IsPlanFault lacks pairs agent errors.NoMemory = Unit {0}
IsPlanFault lacks pairs agent other = ⊥

-- the agent's plan, or why there is none; out of memory may come at any time
abbrev pub PlansWhole : {K B : Type 0} → Lacking → List Pair → List ℕ → Result (Planned K B) RunError → Type 0
PlansWhole lacks pairs agent (Ok p) = IsWhole lacks pairs agent p.plan
PlansWhole lacks pairs agent (Err e) = IsPlanFault lacks pairs agent e

-- the same of a configuration file's bytes, whose own fault comes first
abbrev pub IsPlanIn : Lacking → List ℕ → List ℕ → Plan → Type 0
IsPlanIn lacks bytes agent p = (pairs : List Pair) × Reads bytes (Ok pairs) × IsWhole lacks pairs agent p

abbrev pub IsConfigFault : Lacking → List ℕ → List ℕ → RunError → Type 0
IsConfigFault lacks bytes agent (errors.Text refused) = Reads bytes (Err refused)
IsConfigFault lacks bytes agent other = (pairs : List Pair) × Reads bytes (Ok pairs) × IsPlanFault lacks pairs agent other

abbrev pub Judges : {K B : Type 0} → Lacking → List ℕ → List ℕ → Result (Planned K B) RunError → Type 0
Judges lacks bytes agent (Ok p) = IsPlanIn lacks bytes agent p.plan
Judges lacks bytes agent (Err e) = IsConfigFault lacks bytes agent e

-- The interceptors and the sinks of what was planned took the objects that they ask for, each in turn, out of these.
pub record HasItsObjects {K B : Type 0} (old new : HandedIn K B) (p : Planned K B) : Type 0 where
  pub steps : AreClaimed p.plan.sources.items old.steps.items p.objects.steps.items new.steps.items
  pub many : length p.objects.steps.items ≡ length (step_asks p.plan.sources.items)
  pub taken : AreTaken p.plan.sinks.items old.sinks.items (reverse p.objects.sinks.items) new.sinks.items
  pub have : HaveObjects p.plan.sinks.items (reverse p.objects.sinks.items)

-- the line that is printed of a plan
abbrev pub plan_line : List ℕ → Plan → List ℕ
plan_line agent p =
    agent ++ (codes ": " ++ (decimal (length p.sources.items) ++ (codes " sources, " ++ (decimal (length p.channels.items) ++ (codes " channels, "
    ++ (decimal (length p.sinks.items) ++ (codes " sinks, " ++ (decimal (length p.groups.items) ++ codes " groups\n"))))))))

-- the agent has no plan, or this asks for what was not handed in
abbrev pub IsUnplanned : Lacking → List Pair → List ℕ → Type 0
IsUnplanned lacks pairs agent = ((why : PlanRefused) × (why ≢ plan.NoMemory) × Plans pairs agent (Err why)) ⊎ ((line : ℕ) × LacksObject lacks pairs agent line)

-- the file is too large, its text is at fault, or the agent has no plan in it
abbrev pub IsAtFault : Lacking → List ℕ → List ℕ → Type 0
IsAtFault lacks bytes agent =
    (file_limit < length bytes) ⊎ ((why : PropRefused) × (why ≢ text.NoMemory) × Reads bytes (Err why))
    ⊎ ((pairs : List Pair) × Reads bytes (Ok pairs) × IsUnplanned lacks pairs agent)

-- the agent's plan by the bytes that the file holds; where the host shows a file, it shows these
abbrev pub IsPlanOf : Lacking → Option (List ℕ) → List ℕ → Plan → Type 0
IsPlanOf lacks file agent p =
    (bytes : List ℕ) × (length bytes ≤ file_limit) × IsPlanIn lacks bytes agent p × ((told : List ℕ) → file ≡ Some told → bytes ≡ told)

-- why there is none, by the exit status: a fault of what the file holds, a fault outside that was counted, or out of memory
pub record Unplanned (lacks : Lacking) (file : Option (List ℕ)) (agent : List ℕ) (old new : HostState) (status : ℕ) : Type 0 where
  pub which : (status ≡ 2) ⊎ (status ≡ 3) ⊎ (status ≡ 5)
  pub fault : status ≡ 2 → (bytes : List ℕ) → file ≡ Some bytes → IsAtFault lacks bytes agent
  pub stopped : status ≡ 3 → Rose old.faults new.faults
  pub well : (status ≡ 2) ⊎ (status ≡ 5) → new.faults ≡ old.faults
  -- nothing but the count of faults changed
  pub state : (n : ℕ) × (new ≡ record old { faults = n })

abbrev pub PlansAgent : {K B : Type 0} → Lacking → Option (List ℕ) → List ℕ → HostState → HostState → Result (Planned K B) RunError → Type 0
PlansAgent lacks file agent old new (Ok p) = IsPlanOf lacks file agent p.plan × (new ≡ old)
PlansAgent lacks file agent old new (Err e) = Unplanned lacks file agent old new (status_of e)

-- the input, the files and the disks' count of faults are as before
pub record IsBeside (old new : HostState) : Type 0 where
  pub input : new.input ≡ old.input
  pub files : new.files ≡ old.files
  pub disks : new.disk_faults ≡ old.disk_faults

-- From one state of the host to the next, by what the file holds, where the host shows its contents.
pub record Checked (lacks : Lacking) (file : Option (List ℕ)) (agent : List ℕ) (old new : HostState) (status : ℕ) : Type 0 where
  -- the file has no fault, and the plan's line was written
  pub done : status ≡ 0 → (p : Plan) × IsPlanOf lacks file agent p × Appends old.output new.output (plan_line agent p)
  -- the file has a fault, and nothing was written
  pub fault : status ≡ 2 → (bytes : List ℕ) → file ≡ Some bytes → IsAtFault lacks bytes agent
  pub quiet : (status ≡ 2) ⊎ (status ≡ 5) → new.output ≡ old.output
  -- a count of faults rose: nothing was written, or a front of the plan's line
  pub stopped : status ≡ 3 → Rose old.faults new.faults
  pub front : status ≡ 3 → (new.output ≡ old.output) ⊎ ((p : Plan) × IsPlanOf lacks file agent p × Fronts old.output new.output old.faults new.faults (plan_line agent p))
  -- where nothing stopped it, standard output handed on all that was written, and no fault was counted
  pub handed : status ≡ 0 → new.handed ≡ new.output
  pub well : (status ≡ 0) ⊎ (status ≡ 2) ⊎ (status ≡ 5) → new.faults ≡ old.faults
  -- all else is as before
  pub rest : IsBeside old new

-- the status of a run of `check` that ended so
abbrev pub end_of : {A : Type 0} → Result A RunError → ℕ
end_of (Ok done) = 0
end_of (Err e) = status_of e

-- the statuses of `check`
abbrev pub IsCheckStatus : ℕ → Type 0
IsCheckStatus n = (n ≡ 0) ⊎ (n ≡ 2) ⊎ (n ≡ 3) ⊎ (n ≡ 5)
