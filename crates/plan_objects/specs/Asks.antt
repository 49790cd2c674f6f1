-- What a plan asks for of what is handed in.
use Rattle.std.specs.Prelude.{◌≡◌, ◌++◌, ℕ, Bool, true, false, min, not, List, [], ◌∷◌, flat_map, fold, map, if◌then◌else◌, Option, Some, None, bytes_eq, string_bytes}
use Rattle.std.specs.List.{list_any}
use Rattle.plan_objects.specs.Named.{Claims, Named}
use Rattle.agent_plan.specs.declared.plan.Plan.{Plan}
use Rattle.agent_plan.specs.declared.plan.SourcePlan.{SourcePlan}
use Rattle.agent_plan.specs.declared.plan.StepPlan.{StepPlan}
use Rattle.agent_plan.specs.declared.plan.StepPlan.TheVariants as step
use Rattle.agent_plan.specs.declared.plan.SinkPlan.{SinkPlan}
use Rattle.agent_plan.specs.declared.plan.SinkKind.{SinkKind}
use Rattle.agent_plan.specs.declared.plan.SinkKind.TheVariants.{Null, Roll, Avro, Plugin}
use Rattle.plan_objects.specs.declared.handed.HandedIn.{HandedIn}
use Rattle.plan_objects.specs.declared.claim.ClaimRefused.{ClaimRefused}
use Rattle.plan_objects.specs.declared.claim.ClaimRefused.TheVariants.{Missing, NoMemory}

-- the name of the object that is asked for, if one is, and the line that asks
pub record Ask : Type 0 where
  pub name : Option (List ℕ)
  pub line : ℕ

-- the name of the object that a sink asks for, if it asks for one
abbrev pub asked : SinkKind → Option (List ℕ)
asked Null = None
asked (Roll folder interval) = None
asked (Avro host port) = None
asked (Plugin name) = Some (string_bytes name)

-- what each of these sinks asks for
abbrev pub sink_asks : List SinkPlan → List Ask
sink_asks sinks = map (λ (s : SinkPlan). record { name = asked s.kind; line = s.line }) sinks

-- what an interceptor asks for, if it asks for an object
abbrev pub asks_of_step : StepPlan → List Ask
asks_of_step (step.Step one) = []
asks_of_step (step.Regex keys line) = []
asks_of_step (step.Plugin name line) = record { name = Some (string_bytes name); line = line } ∷ []

-- those of a source, in order
abbrev pub asks_of_source : SourcePlan → List Ask
asks_of_source s = flat_map asks_of_step s.steps.items

-- those of these sources
abbrev pub step_asks : List SourcePlan → List Ask
step_asks sources = flat_map asks_of_source sources

-- whether an object is asked for
abbrev pub has_asks : List Ask → Bool
has_asks [] = false
has_asks (a ∷ asks) = true

-- the nearer of a line, if there is one, and another
abbrev pub nearer : Option ℕ → ℕ → Option ℕ
nearer None line = Some line
nearer (Some first) line = Some (min first line)

-- the names of objects
abbrev pub names_of : {T : Type 0} → List (Named T) → List (List ℕ)
names_of held = map (λ (n : Named _). string_bytes n.name) held

abbrev pub is_left : List (List ℕ) → List ℕ → Bool
is_left names name = list_any (λ (held : List ℕ). bytes_eq held name) names

-- the names but for the first that is this one
abbrev pub without : List (List ℕ) → List ℕ → List (List ℕ)
without [] name = []
without (held ∷ names) name = if bytes_eq held name then names else held ∷ without names name

-- the names that are left once this one was asked for
abbrev pub left : List (List ℕ) → Option (List ℕ) → List (List ℕ)
left names None = names
left names (Some name) = without names name

abbrev pub is_met : List (List ℕ) → Option (List ℕ) → Bool
is_met names None = true
is_met names (Some name) = is_left names name

-- The lines that find no object, where each in turn takes the first of its name that is left of these.
abbrev pub unmet : List (List ℕ) → List Ask → List ℕ
unmet names [] = []
unmet names (a ∷ asks) = (if is_met names a.name then [] else a.line ∷ []) ++ unmet (left names a.name) asks

-- the nearest of a line and those that find no object
abbrev pub nearest : Option ℕ → List (List ℕ) → List Ask → Option ℕ
nearest first names asks = fold nearer first (unmet names asks)

-- The least line of what was not handed in, where these are the names of the interceptors and of the sinks that were.
abbrev pub first_unmet : List (List ℕ) → List (List ℕ) → Plan → Option ℕ
first_unmet steps sinks p = nearest (nearest None steps (step_asks p.sources.items)) sinks (sink_asks p.sinks.items)

-- the same, where these objects were
abbrev pub lacking : {K B : Type 0} → HandedIn K B → Plan → Option ℕ
lacking handed p = first_unmet (names_of handed.steps.items) (names_of handed.sinks.items) p

-- why the objects were not claimed: this is the line; memory may run out at any time
abbrev pub IsUnmet : Option ℕ → ClaimRefused → Type 0
IsUnmet first (Missing line) = first ≡ Some line
IsUnmet first NoMemory = Unit {0}

-- whether there is an object
abbrev pub found : {T : Type 0} → Option T → Bool
found None = false
found (Some object) = true

-- it asks for an object, and found none
abbrev pub misses : Option (List ℕ) → Bool → Bool
misses None found = false
misses (Some name) found = not found

-- an object of the name that is asked for was taken, if one is and it was there
abbrev pub IsTaken : {T : Type 0} → Option (List ℕ) → List (Named T) → Option T → List (Named T) → Type 0
IsTaken None old object new = (object ≡ None) × (new ≡ old)
IsTaken (Some name) old object new = Claims name old object new

-- these are the objects that were taken, one after the other
abbrev pub Takes : {T : Type 0} → List Ask → List (Named T) → List (Option T) → List (Named T) → Type 0
Takes [] old [] new = new ≡ old
Takes {T} (a ∷ asks) old (object ∷ objects) new = (between : List (Named T)) × IsTaken a.name old object between × Takes asks between objects new
Takes asks old objects new = ⊥

-- those that sinks took
abbrev pub AreTaken : {T : Type 0} → List SinkPlan → List (Named T) → List (Option T) → List (Named T) → Type 0
AreTaken sinks old objects new = Takes (sink_asks sinks) old objects new

-- each interceptor of these sources that asks for an object took one, and these are they
abbrev pub AreClaimed : {T : Type 0} → List SourcePlan → List (Named T) → List T → List (Named T) → Type 0
AreClaimed {T} sources old objects new = Takes (step_asks sources) old (map (λ (object : T). Some object) objects) new

-- the objects that were found
abbrev pub given : {T : Type 0} → Option T → List T
given None = []
given (Some object) = object ∷ []

-- those that were taken came after others
pub record Joined {T : Type 0} (asks : List Ask) (old new : List (Named T)) (before after : List T) : Type 0 where
  pub taken : List (Option T)
  pub takes : Takes asks old taken new
  pub joined : after ≡ before ++ flat_map given taken

-- What is left where the objects were not claimed: what was not taken, or all of them where memory ran out.
abbrev pub LeavesRest : {T : Type 0} → ClaimRefused → List Ask → List (Named T) → List (Named T) → Type 0
LeavesRest {T} (Missing line) asks old new = (objects : List (Option T)) × Takes asks old objects new
LeavesRest NoMemory asks old new = new ≡ old

-- it has an object, if it asks for one
abbrev pub HasObject : {T : Type 0} → SinkKind → Option T → Type 0
HasObject Null object = Unit {0}
HasObject (Roll folder interval) object = Unit {0}
HasObject (Avro host port) object = Unit {0}
HasObject (Plugin name) None = ⊥
HasObject (Plugin name) (Some object) = Unit {0}

-- so has each of these
abbrev pub HaveObjects : {T : Type 0} → List SinkPlan → List (Option T) → Type 0
HaveObjects [] [] = Unit {0}
HaveObjects (s ∷ sinks) (object ∷ objects) = HasObject s.kind object × HaveObjects sinks objects
HaveObjects sinks objects = ⊥
