-- Drafts of the session workers of an agent's sources.
use Rattle.std.specs.Prelude.{◌≡◌, ◌++◌, ◌<◌, ◌^◌, ℕ, zero, suc, List, [], ◌∷◌, All, drop, flat_map, length, map, slice_index_or, take}
use Rattle.selectors.specs.Choices.{places_below}
use Rattle.chain_plan.specs.declared.plan.LinkPlan.{LinkPlan}
use Rattle.chain_plan.specs.declared.plan.LinkPlan.TheVariants as link
use Rattle.agent_plan.specs.declared.plan.SourcePlan.{SourcePlan}
use Rattle.agent_plan.specs.declared.plan.SourceKind.{SourceKind}
use Rattle.agent_plan.specs.declared.plan.SourceKind.TheVariants.{Netcat, Avro, Stdin}
use Rattle.agent_plan.specs.declared.plan.StepPlan.{StepPlan}
use Rattle.agent_plan.specs.declared.plan.StepPlan.TheVariants as plan
use Rattle.source_put.specs.declared.chain.HostNames.{HostNames}
use Rattle.source_worker.specs.declared.ends.SessionRules.{SessionRules}
use Rattle.source_worker.specs.declared.ends.SessionRules.TheVariants as rule
use Rattle.plan_objects.specs.Asks.{asks_of_source}
use Rattle.agent_outside.specs.Ends.{places_by}
use Rattle.agent_drafts.specs.declared.draft.SourceDraft.{SourceDraft}
use Rattle.agent_drafts.specs.Copies.{AreSameKeys, AreSameNames, IsSameSelector, IsSameStep}

-- Each of these does so with each of those, and with its own of the objects, one after the other.
abbrev pub Deals : {A B C : Type 0} → (A → List B → C → Type 0) → List A → List B → List C → Type 0
Deals R [] own [] = own ≡ []
Deals {B = B} R (x ∷ xs) own (y ∷ ys) = (given rest : List B) × (own ≡ given ++ rest) × R x given y × Deals R xs rest ys
Deals R xs own ys = ⊥

-- the interceptor is built of this, and of this object, if it asks for one
abbrev pub IsLink : {B : Type 0} → StepPlan → List B → LinkPlan B → Type 0
IsLink (plan.Step step) given (link.Step copy) = (given ≡ []) × IsSameStep step copy
IsLink (plan.Regex keys line) given (link.Regex copy) = (given ≡ []) × AreSameKeys keys copy
IsLink (plan.Plugin name line) given (link.Boxed object) = given ≡ object ∷ []
IsLink step given link = ⊥

-- the rules of its sessions
abbrev pub AreRules : SourceKind → SessionRules → Type 0
AreRules (Netcat bind port max_line ack threads) rules = rules ≡ rule.Lines (record { max = max_line; ack = ack })
AreRules (Stdin max_line ack) rules = rules ≡ rule.Lines (record { max = max_line; ack = ack })
AreRules (Avro bind port threads) rules = rules ≡ rule.Avro

-- they are rules of lines
abbrev pub TakesLines : SessionRules → Type 0
TakesLines (rule.Lines rules) = Unit {0}
TakesLines rule.Avro = ⊥

-- a draft of a session worker of this source, whose interceptors have these objects and are told these names
pub record IsDraft {B : Type 0} (source : SourcePlan) (own : List B) (names : HostNames) (draft : SourceDraft B) : Type 0 where
  pub channels : draft.channels.items ≡ source.channels.items
  pub few : length draft.channels.items < 2 ^ 32
  pub links : Deals IsLink source.steps.items own draft.plan.items
  pub selector : IsSameSelector source.selector draft.selector
  pub host : AreSameNames names draft.host
  pub rules : AreRules source.kind draft.rules

-- the objects of the source at a place, where these are those of all sources, in order
abbrev pub objects_at : {B : Type 0} → List SourcePlan → ℕ → List B → List B
objects_at [] place objects = []
objects_at (source ∷ sources) zero objects = take (length (asks_of_source source)) objects
objects_at (source ∷ sources) (suc place) objects = objects_at sources place (drop (length (asks_of_source source)) objects)

-- how many objects the source at a place asks for
abbrev pub many_at : List SourcePlan → ℕ → ℕ
many_at [] place = 0
many_at (source ∷ sources) zero = length (asks_of_source source)
many_at (source ∷ sources) (suc place) = many_at sources place

-- of the source at its place, with its own of these objects, and with the names for that
pub record IsDraftAt {B : Type 0} (sources : List SourcePlan) (objects : List B) (names : List HostNames) (draft : SourceDraft B) : Type 0 where
  pub there : draft.source < length sources
  pub is : (source : SourcePlan) (name : HostNames)
      → IsDraft (slice_index_or sources draft.source source) (objects_at sources draft.source objects) (slice_index_or names draft.source name) draft

-- how many sessions a source of this kind has on standard input
abbrev pub inputs_by : SourceKind → ℕ
inputs_by (Netcat bind port max_line ack threads) = 0
inputs_by (Avro bind port threads) = 0
inputs_by (Stdin max_line ack) = 1

abbrev pub inputs_of : SourcePlan → ℕ
inputs_of source = inputs_by source.kind

-- The places of the workers of each source among its own.
abbrev pub turns_by : (SourcePlan → ℕ) → List SourcePlan → List ℕ
turns_by many sources = flat_map (λ (source : SourcePlan). places_below (many source)) sources

-- Drafts of so many session workers of each source, in order.
pub record AreDrafts {B : Type 0} (many : SourcePlan → ℕ) (sources : List SourcePlan) (objects : List B) (names : List HostNames) (drafts : List (SourceDraft B)) : Type 0 where
  pub order : map (λ (draft : SourceDraft B). draft.source) drafts ≡ places_by many 0 sources
  pub turns : map (λ (draft : SourceDraft B). draft.place) drafts ≡ turns_by many sources
  pub each : All (IsDraftAt sources objects names) drafts

-- how many of a source's objects go into so many drafts of it: all into the first
abbrev pub used_by : ℕ → ℕ → ℕ
used_by zero many = zero
used_by (suc drafts) many = many
