-- What copies mean, and what is built of them.
use Rattle.std.specs.Prelude.{◌≡◌, ℕ, List, [], ◌∷◌}
use Rattle.event_core.specs.Content.{Content, Header}
use Rattle.interceptors.specs.Steps.{applied}
use Rattle.interceptors.specs.declared.step.Step.{Step}
use Rattle.regex_steps.specs.Steps.{IsStepOf, step as step_of}
use Rattle.regex_steps.specs.Steps.{Step as Built}
use Rattle.regex_steps.specs.declared.keys.RegexKeys.{RegexKeys}
use Rattle.selectors.specs.Choices.{optional, required}
use Rattle.selectors.specs.declared.selector.Selector.{Selector}
use Rattle.source_put.specs.Chains.{host_text}
use Rattle.source_put.specs.declared.chain.ChainLink.{ChainLink}
use Rattle.source_put.specs.declared.chain.ChainLink.TheVariants as link
use Rattle.source_put.specs.declared.chain.HostNames.{HostNames}
use Rattle.chain_plan.specs.Builds.{AreBuilt}
use Rattle.chain_plan.specs.declared.plan.LinkPlan.{LinkPlan}
use Rattle.agent_plan.specs.declared.plan.StepPlan.{StepPlan}
use Rattle.agent_plan.specs.declared.plan.StepPlan.TheVariants as plan
use Rattle.agent_drafts.specs.Copies.{AreSameKeys, AreSameNames, IsSameSelector, IsSameStep}
use Rattle.agent_drafts.specs.Drafts.{Deals, IsLink}

-- it makes the same of each event at each moment, by what the host's names tell it
abbrev pub DoesTheSame : Step → Step → Type 0
DoesTheSame step copy =
    (moment : ℕ) (host other : HostNames) (event : Content) → AreSameNames host other
    → applied copy moment (host_text copy other) event ≡ applied step moment (host_text step host) event

pub record CopiesDoTheSame : Type 0 where
  pub steps : (step copy : Step) → IsSameStep step copy → DoesTheSame step copy
  pub keys : (keys copy : RegexKeys) → AreSameKeys keys copy → (built : Built) → IsStepOf copy built → IsStepOf keys built
  pub required : (selector copy : Selector) → IsSameSelector selector copy → (headers : List Header)
      → required copy headers ≡ required selector headers
  pub optional : (selector copy : Selector) → IsSameSelector selector copy → (headers : List Header)
      → optional copy headers ≡ optional selector headers

-- the interceptor does what was planned, or is the object that it asks for
abbrev pub IsAsPlanned : {B : Type 0} → StepPlan → List B → ChainLink B → Type 0
IsAsPlanned (plan.Step step) given (link.Step made) = (given ≡ []) × DoesTheSame step made
IsAsPlanned (plan.Regex keys line) given (link.Regex made) = (given ≡ []) × IsStepOf keys (step_of made)
IsAsPlanned (plan.Plugin name line) given (link.Boxed object) = given ≡ object ∷ []
IsAsPlanned step given made = ⊥

abbrev pub ChainsAreAsPlanned : Type 0 → Type 0
ChainsAreAsPlanned B =
    (steps : List StepPlan) (own : List B) (plans : List (LinkPlan B)) (links : List (ChainLink B))
    → Deals IsLink steps own plans → AreBuilt plans links → Deals IsAsPlanned steps own links
