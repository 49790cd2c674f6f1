-- What the interceptors of a source are told of the host.
use Rattle.std.specs.Prelude.{◌≡◌, ℕ, Bool, true, false, not, List, [], All, Option, string_bytes}
use Rattle.std.specs.List.{list_any}
use Rattle.flume_host.specs.HandedOut.{Names}
use Rattle.interceptors.specs.declared.step.Step.{Step}
use Rattle.interceptors.specs.declared.step.Step.TheVariants.{Timestamp, Host, Static, Remove}
use Rattle.agent_plan.specs.declared.plan.SourcePlan.{SourcePlan}
use Rattle.agent_plan.specs.declared.plan.StepPlan.{StepPlan}
use Rattle.agent_plan.specs.declared.plan.StepPlan.TheVariants as plan
use Rattle.source_put.specs.Chains.{host_text}
use Rattle.source_put.specs.declared.chain.HostNames.{HostNames}

-- it sets a header to the host's address, or to its name
abbrev pub step_asks : Bool → Step → Bool
step_asks use_ip (Timestamp header preserve) = false
step_asks true (Host wanted header preserve) = wanted
step_asks false (Host wanted header preserve) = not wanted
step_asks use_ip (Static key value preserve) = false
step_asks use_ip (Remove names) = false

abbrev pub asks : Bool → StepPlan → Bool
asks use_ip (plan.Step step) = step_asks use_ip step
asks use_ip (plan.Regex keys line) = false
asks use_ip (plan.Plugin name line) = false

-- one of the source's interceptors does
abbrev pub wants : Bool → SourcePlan → Bool
wants use_ip source = list_any (asks use_ip) source.steps.items

-- the text is the host's address, or its name, where it is wanted, and else empty
abbrev pub IsTold : Bool → Bool → Option (List ℕ) → Option (List ℕ) → List ℕ → Type 0
IsTold true use_ip name address text = Names use_ip name address text
IsTold false use_ip name address text = text ≡ []

-- these are the host's name and its address, each where an interceptor of the source wants it
pub record AreTold (own_name own_address : Option (List ℕ)) (source : SourcePlan) (names : HostNames) : Type 0 where
  pub name : IsTold (wants false source) false own_name own_address (string_bytes names.name)
  pub address : IsTold (wants true source) true own_name own_address (string_bytes names.address)

-- a header that the interceptor sets to the host's name, or to its address, is set to that
abbrev pub IsRightStep : Option (List ℕ) → Option (List ℕ) → HostNames → Step → Type 0
IsRightStep own_name own_address names (Timestamp header preserve) = Unit {0}
IsRightStep own_name own_address names (Host use_ip header preserve) =
    Names use_ip own_name own_address (host_text (Host use_ip header preserve) names)
IsRightStep own_name own_address names (Static key value preserve) = Unit {0}
IsRightStep own_name own_address names (Remove keys) = Unit {0}

abbrev pub IsRight : Option (List ℕ) → Option (List ℕ) → HostNames → StepPlan → Type 0
IsRight own_name own_address names (plan.Step step) = IsRightStep own_name own_address names step
IsRight own_name own_address names (plan.Regex keys line) = Unit {0}
IsRight own_name own_address names (plan.Plugin name line) = Unit {0}

-- so is each interceptor of a source, with the names for that
abbrev pub HostsAreRight : Type 0
HostsAreRight =
    (own_name own_address : Option (List ℕ)) (source : SourcePlan) (names : HostNames) → AreTold own_name own_address source names
    → All (IsRight own_name own_address names) source.steps.items
