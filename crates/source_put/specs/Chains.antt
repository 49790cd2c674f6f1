-- What a chain of interceptors makes of events.
use Rattle.std.specs.Prelude.{◌≡◌, ◌<◌, ◌≤◌, ◌⊎◌, ℕ, List, [], ◌∷◌, Option, Some, None, Result, Ok, Err}
use Rattle.std.specs.Prelude.{true, false, string_bytes}
use Rattle.plug_in.specs.declared.step.Intercepted.{Intercepted}
use Rattle.plug_in.specs.declared.step.Intercepted.TheVariants.{Keep}
use Rattle.plug_in.specs.declared.step.Intercepted.TheVariants as answer
use Rattle.event_core.specs.Content.{Content, size as size_of}
use Rattle.interceptors.specs.Steps.{applied}
use Rattle.regex_steps.specs.declared.step.RegexStep.{RegexStep}
use Rattle.regex_steps.specs.Steps.{ran, step as step_of}
use Rattle.interceptors.specs.declared.step.Step.{Step as OneStep}
use Rattle.interceptors.specs.declared.step.Step.TheVariants.{Timestamp, Host, Static, Remove}
use Rattle.source_put.specs.declared.chain.HostNames.{HostNames}
use Rattle.source_put.specs.declared.chain.ChainLink.{ChainLink}
use Rattle.source_put.specs.declared.chain.ChainLink.TheVariants.{Step, Regex, Boxed}
use Rattle.source_put.specs.declared.chain.Passed.{Passed}
use Rattle.source_put.specs.declared.chain.Passed.TheVariants.{Event, Dropped, TooLarge, NoMemory}
use Rattle.source_put.specs.declared.chain.Stopped.{Stopped}
use Rattle.source_put.specs.declared.chain.Stopped.TheVariants as stop

-- what a step is told of the host: its address or its name
abbrev pub host_text : OneStep → HostNames → List ℕ
host_text (Timestamp header preserve) host = []
host_text (Host true header preserve) host = string_bytes host.address
host_text (Host false header preserve) host = string_bytes host.name
host_text (Static key value preserve) host = []
host_text (Remove names) host = []

-- this event goes on, unless it is too large for one; out of memory may come at any time
abbrev pub IsMade : Content → Passed → Type 0
IsMade made (Event event) = (event ≡ made) × (size_of made ≤ 33_554_432)
IsMade made Dropped = ⊥
IsMade made (TooLarge size) = (size ≡ size_of made) × (33_554_432 < size)
IsMade made NoMemory = Unit {0}

-- the same where the event may be dropped
abbrev pub IsMadeOrNot : Option Content → Passed → Type 0
IsMadeOrNot (Some made) passed = IsMade made passed
IsMadeOrNot None (Event event) = ⊥
IsMadeOrNot None Dropped = Unit {0}
IsMadeOrNot None (TooLarge size) = ⊥
IsMadeOrNot None NoMemory = Unit {0}

-- what becomes of an event by the answer of an interceptor that was handed in
abbrev pub passed_by : Intercepted → Passed
passed_by (Keep event) = Event event
passed_by answer.Dropped = Dropped
passed_by answer.NoMemory = NoMemory

-- an event went on, of which P is true, or else Q is
abbrev pub IfWent : Passed → (Content → Type 0) → Type 0 → Type 0
IfWent (Event event) P Q = P event
IfWent Dropped P Q = Q
IfWent (TooLarge size) P Q = Q
IfWent NoMemory P Q = Q

-- the events that go on, or why none does
abbrev pub Outcome : Type 0
Outcome = Result (List Content) Stopped

-- the events that go on after this one
abbrev pub behind : Content → Outcome → Outcome
behind event (Ok events) = Ok (event ∷ events)
behind event (Err why) = Err why

-- what objects that are handed in mean: what one answers to an event at a moment, and what it then is
abbrev pub Meaning : Type 0 → Type 1
Meaning B = B → Content → ℕ → Intercepted → B → Type 0

-- an object answers by its meaning, and goes on as what it then is
abbrev pub Answers : {B : Type 0} → Meaning B → ℕ → B → Content → Passed → B → Type 0
Answers Means moment old event passed new =
    (answer : Intercepted) × Means old event moment answer new × (passed ≡ passed_by answer)

module _ {B : Type 0} (Means : Meaning B) (moment : ℕ) (host : HostNames) where
  -- what one interceptor makes of an event, and what it then is
  abbrev pub Links : ChainLink B → Content → Passed → ChainLink B → Type 0
  Links (Step step) event passed after =
      IsMade (applied step moment (host_text step host) event) passed × (after ≡ Step step)
  Links (Regex built) event passed after =
      (next : RegexStep) × (after ≡ Regex next) × (step_of next ≡ step_of built)
      × IsMadeOrNot (ran (step_of built) event) passed
  Links (Boxed box) event passed after =
      (next : B) × (after ≡ Boxed next) × Answers Means moment box event passed next

  -- An event passes the interceptors in order, up to the first that lets none go on.
  abbrev pub Passes : List (ChainLink B) → Content → Passed → List (ChainLink B) → Type 0
  Passes [] event passed after = (passed ≡ Event event) × (after ≡ [])
  Passes (link ∷ links) event passed after =
      (made : Passed) × (first : ChainLink B) × (others : List (ChainLink B))
      × Links link event made first × (after ≡ first ∷ others)
      × IfWent made (λ next. Passes links next passed others) ((passed ≡ made) × (others ≡ links))

  -- by what became of the first event, and of the rest; out of memory may come at any time
  abbrev pub GoesOn : Passed → List (ChainLink B) → Outcome → List (ChainLink B) → (Outcome → Type 0) → Type 0
  GoesOn (Event made) next result after Rest =
      ((rest : Outcome) × Rest rest × (result ≡ behind made rest))
      ⊎ ((result ≡ Err stop.NoMemory) × (after ≡ next))
  GoesOn Dropped next result after Rest = Rest result
  GoesOn (TooLarge size) next result after Rest = (result ≡ Err (stop.TooLarge size)) × (after ≡ next)
  GoesOn NoMemory next result after Rest = (result ≡ Err stop.NoMemory) × (after ≡ next)

  -- The events pass in order, up to the first that is too large, or for which memory is wanting.
  abbrev pub Intercepts : List (ChainLink B) → List Content → Outcome → List (ChainLink B) → Type 0
  Intercepts links [] result after = (result ≡ Ok []) × (after ≡ links)
  Intercepts links (event ∷ events) result after =
      (passed : Passed) × (next : List (ChainLink B)) × Passes links event passed next
      × GoesOn passed next result after (λ rest. Intercepts next events rest after)
