-- The statuses of a run of `agent`.
use Rattle.std.proofs.Common.{◌≡◌, ◌⊎◌, inl, inr, ℕ, List, [], Bool, true, false, cond, Option, IfOk, Result, Ok, Err, refl, sym, ap, subst, arith}
use Rattle.std.specs.declared.alloc.Global.{Global}
use Rattle.std.specs.declared.vec.Vec.{Vec}
use Rattle.prop_text.specs.declared.fault.PropRefused.TheVariants as text
use Rattle.agent_plan.specs.declared.plan.Plan.{Plan}
use Rattle.plan_refused.specs.declared.refused.PlanRefused.TheVariants as plan
use Rattle.plan_objects.specs.Asks.{AreClaimed, AreTaken}
use Rattle.plan_objects.specs.declared.handed.HandedIn.{HandedIn}
use Rattle.agent_words.specs.Statuses.{status_of}
use Rattle.agent_words.specs.declared.error.RunError.{RunError}
use Rattle.agent_words.specs.declared.error.RunError.TheVariants.{Usage, FileTooLarge, Text, NoAgent, Plan as Plan', Fault, BadCheckpoint, BadLog, OverCapacity, Spent, Damaged, NoMemory, InputTooLong, LineTooLong}
use Rattle.flume_host.specs.HostState.{HostState}
use Rattle.agent_commands.specs.Checked.{IsPlanOf, Lacking, Unplanned}
use Rattle.flume_host.specs.HandedOut.{HandedOut}
use Rattle.flume_host.specs.Listens.{Endpoint}
use Rattle.flume_host.specs.Rolled.{Rolled}
use Rattle.agent_sinks.specs.declared.sink.AgentSink.{AgentSink}
use Rattle.avro_ends.specs.Dialing.{DialTold}
use Rattle.run_opening.specs.Outside.{IsOutside}
use Rattle.channel_wishes.specs.Openings.{HostTold}
use Rattle.agent_end.specs.Statuses.{run_status}
use Rattle.agent_end.specs.declared.ends.RunEnds.{RunEnds}
use Rattle.agent_run.specs.NotBegun.{ChannelNotOpened, DidNotBegin, IsRunRefused, NoPlan, NotBegun, NotPrepared, OutsideNotOpened}
use Rattle.agent_run.specs.Through.{AgentEndsAs, CameTo, EndsAs, WithObjects}
use Rattle.run_opening.specs.declared.channel_end.ChannelEnd.{ChannelEnd}
use Rattle.agent_run.specs.Errors.{IsRunStatus}
use Rattle.agent_run.specs.Named.{AgentEnds, IsAgentStatus}
use Rattle.run_opening.specs.Prepared.{IsPlanned}
use Rattle.agent_run.proofs.Apart.{folders_apart}
use Rattle.agent_run.proofs.Refusing.{cause_which, outside_status, plan_host, refused_host}
use Rattle.agent_run.proofs.Spared.{refused_folders}

-- the first of these statuses whose question is answered yes
pub first_of_six : (a b c d e : Bool) → IsRunStatus (cond a 4 (cond b 3 (cond c 5 (cond d 7 (cond e 6 0)))))
first_of_six true b c d e = inr (inr (inl refl))
first_of_six false true c d e = inr (inl refl)
first_of_six false false true d e = inr (inr (inr (inl refl)))
first_of_six false false false true e = inr (inr (inr (inr (inr refl))))
first_of_six false false false false true = inr (inr (inr (inr (inl refl))))
first_of_six false false false false false = inl refl

-- a run of `agent` never ends with status 1
pub never_one : (n : ℕ) → IsAgentStatus n → n ≡ 1 → ⊥
never_one n (inl two) one = omega (arith, two, one)
never_one n (inr (inl a)) one = omega (arith, a, one)
never_one n (inr (inr (inl a))) one = omega (arith, a, one)
never_one n (inr (inr (inr (inl a)))) one = omega (arith, a, one)
never_one n (inr (inr (inr (inr (inl a))))) one = omega (arith, a, one)
never_one n (inr (inr (inr (inr (inr (inl a)))))) one = omega (arith, a, one)
never_one n (inr (inr (inr (inr (inr (inr a)))))) one = omega (arith, a, one)

-- a run of a plan never ends with status 2
pub never_two : (n : ℕ) → IsRunStatus n → n ≡ 2 → ⊥
never_two n (inl a) two = omega (arith, a, two)
never_two n (inr (inl a)) two = omega (arith, a, two)
never_two n (inr (inr (inl a))) two = omega (arith, a, two)
never_two n (inr (inr (inr (inl a)))) two = omega (arith, a, two)
never_two n (inr (inr (inr (inr (inl a))))) two = omega (arith, a, two)
never_two n (inr (inr (inr (inr (inr a))))) two = omega (arith, a, two)

-- what is the same as a status of a run is one
pub ended : (status n : ℕ) → status ≡ n → IsRunStatus n → IsRunStatus status
ended status n same is = subst IsRunStatus (sym same) is

step_status : {plan : Plan} {status : ℕ} {a b : HostTold} → NotPrepared status a b ⊎ ChannelNotOpened plan status a b ⊎ OutsideNotOpened plan status a b
    → (status ≡ 3) ⊎ (status ≡ 4) ⊎ (status ≡ 5)
step_status (inl not) = elim not.why [
  | inl fault ↦ inl fault.0
  | inr none ↦ inr (inr none.0)
]
step_status (inr (inl not)) = cause_which not.cause _ not.is
step_status (inr (inr not)) = elim (outside_status not.why _ not.is) [
  | inl three ↦ inl three
  | inr five ↦ inr (inr five)
]

by_step : (n : ℕ) → (n ≡ 3) ⊎ (n ≡ 4) ⊎ (n ≡ 5) → IsRunStatus n
by_step n (inl three) = inr (inl three)
by_step n (inr (inl four)) = inr (inr (inl four))
by_step n (inr (inr five)) = inr (inr (inr (inl five)))

-- a run that was refused ends with a status of a run
pub refused : (p : Plan) (status n : ℕ) (a b : HostTold) → status ≡ n → IsRunRefused p n a b → IsRunStatus status
refused p status n a b same why = subst IsRunStatus (sym same) (by_step n (step_status why))

-- the plan was found in the file, and run
pub named : (lacks : Lacking) (file : Option (List ℕ)) (agent : List ℕ) (status : ℕ) → IsRunStatus status → AgentEnds lacks file agent status
named lacks file agent status is = record { which = inr is; fault = λ two. absurd (never_two status is two) }

-- it was not found
pub unnamed : (lacks : Lacking) (file : Option (List ℕ)) (agent : List ℕ) (old new : HostState) (status : ℕ) → Unplanned lacks file agent old new status → AgentEnds lacks file agent status
unnamed lacks file agent old new status is = record {
  which = elim is.which [
    | inl two ↦ inl two
    | inr more ↦ elim more [
      | inl three ↦ inr (inr (inl three))
      | inr five ↦ inr (inr (inr (inr (inl five))))
    ]
  ];
  fault = λ two told e. is.fault two told e;
}

-- the plan of an agent in a file is one that some properties text may have
pub is_planned : (lacks : Lacking) (file : Option (List ℕ)) (agent : List ℕ) (p : Plan) → IsPlanOf lacks file agent p → IsPlanned p
is_planned lacks file agent p of = (of.2.0, agent, of.2.2.0)

-- no error has the status 0
pub nonzero : (e : RunError) → status_of e ≡ 0 → ⊥
nonzero Usage zero = omega arith
nonzero FileTooLarge zero = omega arith
nonzero (Text (text.NotUtf8 at)) zero = omega arith
nonzero (Text (text.BadEscape line)) zero = omega arith
nonzero (Text text.NoMemory) zero = omega arith
nonzero (NoAgent name) zero = omega arith
nonzero (Plan' plan.NoAgent) zero = omega arith
nonzero (Plan' (plan.UnknownType line)) zero = omega arith
nonzero (Plan' (plan.UnknownName line)) zero = omega arith
nonzero (Plan' (plan.BadNumber line)) zero = omega arith
nonzero (Plan' (plan.BadPattern line)) zero = omega arith
nonzero (Plan' (plan.Unsupported line)) zero = omega arith
nonzero (Plan' (plan.Clash line)) zero = omega arith
nonzero (Plan' (plan.Missing key)) zero = omega arith
nonzero (Plan' plan.NoMemory) zero = omega arith
nonzero Fault zero = omega arith
nonzero (BadCheckpoint dir file at) zero = omega arith
nonzero (BadLog dir file at) zero = omega arith
nonzero (OverCapacity dir count capacity) zero = omega arith
nonzero (Spent dir) zero = omega arith
nonzero (Damaged dir) zero = omega arith
nonzero NoMemory zero = omega arith
nonzero InputTooLong zero = omega arith
nonzero LineTooLong zero = omega arith

-- a run that was refused did not begin
pub not_begun : {channels : List ChannelEnd} (p : Plan) (status n : ℕ) (a b : HostTold) → IsPlanned p → status ≡ n → channels ≡ [] → IsRunRefused p n a b → NotBegun p status channels a b
not_begun {channels = channels} p status n a b planned same none why =
    subst (λ (m : ℕ). NotBegun p m channels a b) (sym same)
    (record { none = none; why = why; host = refused_host p n a b why; folders = refused_folders p n a b (folders_apart p planned) why })

-- there was no plan
pub not_planned : {channels : List ChannelEnd} (lacks : Lacking) (file : Option (List ℕ)) (agent : List ℕ) (status n : ℕ) (a b : HostTold) → status ≡ n → channels ≡ [] → Unplanned lacks file agent a.state b.state n → b.folders ≡ a.folders
    → DidNotBegin lacks file agent status channels a b
not_planned {channels = channels} lacks file agent status n a b same none why folders =
    let no : NoPlan lacks file agent n a b = record { why = why; folders = folders } in
    subst (λ (m : ℕ). DidNotBegin lacks file agent m channels a b) (sym same) (record { none = none; host = plan_host lacks file agent n a b no; why = inl no })

-- there was no memory for the words, and nothing was touched
pub not_read : {channels : List ChannelEnd} (lacks : Lacking) (file : Option (List ℕ)) (agent : List ℕ) (status : ℕ) (a b : HostTold) → channels ≡ [] → status ≡ 5 → b.state ≡ a.state → b.folders ≡ a.folders
    → DidNotBegin lacks file agent status channels a b
not_read lacks file agent status a b none five same folders =
    let none_planned : Unplanned lacks file agent a.state b.state 5 = record {
      which = inr (inr refl);
      fault = λ two. absurd (omega (arith, two));
      stopped = λ three. absurd (omega (arith, three));
      well = λ _. ap (λ (s : HostState). s.faults) same;
      state = (a.state.faults, same);
    } in
    not_planned lacks file agent status 5 a b five none none_planned folders

-- a run that began came to the channels that are handed on
pub came_with : {Ran : Plan → RunEnds → List ChannelEnd → HostTold → HostTold → Type 0} {p : Plan} {status : ℕ} {a b : HostTold} (ends : RunEnds) (before after : Vec ChannelEnd Global)
    → after ≡ before → run_status ends ≡ status → Ran p ends before.items a b → EndsAs Ran p status after.items a b
came_with {Ran = Ran} {p = p} {a = a} {b = b} ends before after same well ran =
    inl (record { ends = ends; by_ends = well; ran = subst (λ (v : Vec ChannelEnd Global). Ran p ends v.items a b) (sym same) ran })

-- a run of the agent's plan in a file, with the objects that it took of these, came to what the run of that plan with them came to
pub of_plan : {K B : Type 0} (Ran : List K → List (Option B) → Plan → RunEnds → List ChannelEnd → HostTold → HostTold → Type 0) (lacks : Lacking) (held left : HandedIn K B) (given : List K)
    (objects : List (Option B)) {status : ℕ} {channels : List ChannelEnd} {file : Option (List ℕ)} {agent : List ℕ} {p : Plan} {a a' b : HostTold} → a ≡ a' → IsPlanOf lacks file agent p
    → AreClaimed p.sources.items held.steps.items given left.steps.items → AreTaken p.sinks.items held.sinks.items objects left.sinks.items
    → EndsAs (Ran given objects) p status channels a b → AgentEndsAs lacks (WithObjects Ran held) file agent status channels a' b
of_plan Ran lacks held left given objects {status = status} {channels = channels} {p = p} {a = a} {b = b} first of claimed taken (inl came) =
    let with_objects : CameTo (WithObjects Ran held) p status channels a b =
    record { ends = came.ends; by_ends = came.by_ends; ran = (given, objects, left, claimed, taken, came.ran) } in
    inl (record { plan = p; of = of; ran = subst (λ (x : HostTold). CameTo (WithObjects Ran held) p status channels x b) first with_objects })
of_plan Ran lacks held left given objects {status = status} {channels = channels} {p = p} {b = b} first of claimed taken (inr not) =
    let none = subst (λ (x : HostTold). NotBegun p status channels x b) first not in
    inr (record { none = none.none; host = none.host; why = inr (p, of, none) })

-- how a run of this kind ended, from the same to the same
module _ {lacks : Lacking} {Ran : Plan → RunEnds → List ChannelEnd → HostTold → HostTold → Type 0} {status : ℕ} {channels : List ChannelEnd} where
  -- how a run ended is told as well of what is the same as the host that it left
  pub agent_same : {file : Option (List ℕ)} {agent : List ℕ} {a b b' : HostTold} → b ≡ b'
      → AgentEndsAs lacks Ran file agent status channels a b → AgentEndsAs lacks Ran file agent status channels a b'
  agent_same {file = file} {agent = agent} {a = a} last ran = subst (λ (x : HostTold). AgentEndsAs lacks Ran file agent status channels a x) last ran

  -- and of what are the same as its file and the name of its agent
  pub agent_named : (files : List ℕ → Option (List ℕ)) {file file' agent agent' : List ℕ} {a b : HostTold} → file ≡ file' → agent ≡ agent'
      → AgentEndsAs lacks Ran (files file) agent status channels a b → AgentEndsAs lacks Ran (files file') agent' status channels a b
  agent_named files {a = a} {b = b} f n ran = subst (λ (x : List ℕ × List ℕ). AgentEndsAs lacks Ran (files x.0) x.1 status channels a b) (λ i. (f i, n i)) ran

-- what comes with an answer comes with what follows of it
pub if_ok : {T E : Type 0} (r : Result T E) (P Q : T → Type 0) → ((t : T) → P t → Q t) → IfOk r P → IfOk r Q
if_ok (Ok t) P Q step p = step t p
if_ok (Err e) P Q step p = tt

-- what was opened outside the channels, for the same places and with the same listeners
pub outside_at : {R A B N : Type 0} {rolled : R → Option Rolled} {faults : R → ℕ} {dial : DialTold A} {Fresh : Endpoint → Option HandedOut → N → Type 0} {p : Plan} {objects : List (Option B)} {l l' : List ℕ} {a b : HostTold}
    {all : List (AgentSink R A B)} {bare bare' : List N} → l ≡ l' → bare ≡ bare' → IsOutside rolled faults dial Fresh p objects l a b all bare → IsOutside rolled faults dial Fresh p objects l' a b all bare'
outside_at {N = N} {rolled = rolled} {faults = faults} {dial = dial} {Fresh = Fresh} {p = p} {objects = objects} {a = a} {b = b} {all = all} places listeners is =
    subst (λ (x : List ℕ × List N). IsOutside rolled faults dial Fresh p objects x.0 a b all x.1) (λ i. (places i, listeners i)) is
