-- What planning an agent answers.
use Rattle.std.specs.Prelude.{◌≡◌, ℕ, Bool, true, false, List, Some, None, Result, Ok, Err, string_bytes}
use Rattle.prop_text.specs.Pairs.{Pair}
use Rattle.plan_judging.specs.declared.findings.FaultKind.TheVariants as kinds
use Rattle.plan_refused.specs.declared.refused.PlanRefused.{PlanRefused}
use Rattle.plan_refused.specs.declared.refused.PlanRefused.TheVariants.{NoAgent, UnknownType, UnknownName, BadNumber, BadPattern, Unsupported, Clash, Missing, NoMemory}
use Rattle.agent_plan.specs.declared.plan.Plan.{Plan}
use Rattle.plan_judging.specs.Candidates.{Seen, adds}
use Rattle.plan_judging.specs.Agents as agents
use Rattle.plan_judging.specs.Agents.{is_agent}
use Rattle.agent_plan.specs.Faults.{all_of, asked, first_fault, least_missing}
use Rattle.agent_plan.specs.Patterns.{AreVerdicts, asked_of}
use Rattle.agent_plan.specs.Values.{Match, SourceNamed, ChannelNamed, SinkNamed, GroupNamed}

-- the first fault and the least missing key of an agent's configuration
abbrev pub judged : List Pair → List ℕ → List Bool → Seen
judged pairs agent verdicts = record { fault = first_fault pairs agent verdicts; missing = least_missing pairs agent verdicts }

-- the same by right verdicts on the texts that have to be patterns
pub record IsJudged (pairs : List Pair) (agent : List ℕ) (s : Seen) : Type 0 where
  pub verdicts : List Bool
  pub are : AreVerdicts (asked pairs agent) verdicts
  pub is : s ≡ judged pairs agent verdicts

-- the same of these components
pub record IsSeen (pairs : List Pair) (agent : List ℕ) (sources channels sinks groups : List (List ℕ)) (s : Seen) : Type 0 where
  pub verdicts : List Bool
  pub are : AreVerdicts (asked_of pairs agent sources) verdicts
  pub is : s ≡ adds (record { fault = None; missing = None }) (all_of pairs agent sources channels sinks groups verdicts)

-- nothing is at fault
abbrev pub IsRight : Seen → Type 0
IsRight s = (s.fault ≡ None) × (s.missing ≡ None)

-- a fault comes before a missing key
abbrev pub Refuses : Seen → PlanRefused → Type 0
Refuses s NoAgent = ⊥
Refuses s (UnknownType l) = s.fault ≡ Some (record { line = l; kind = kinds.UnknownType })
Refuses s (UnknownName l) = s.fault ≡ Some (record { line = l; kind = kinds.UnknownName })
Refuses s (BadNumber l) = s.fault ≡ Some (record { line = l; kind = kinds.BadNumber })
Refuses s (BadPattern l) = s.fault ≡ Some (record { line = l; kind = kinds.BadPattern })
Refuses s (Unsupported l) = s.fault ≡ Some (record { line = l; kind = kinds.Unsupported })
Refuses s (Clash l) = s.fault ≡ Some (record { line = l; kind = kinds.Clash })
Refuses s (Missing key) = (s.fault ≡ None) × (s.missing ≡ Some (string_bytes key))
Refuses s NoMemory = ⊥

-- the plan has the components of the agent's lists, in their order, with the values of the table
pub record IsPlan (pairs : List Pair) (agent : List ℕ) (plan : Plan) : Type 0 where
  pub sources : Match (SourceNamed pairs agent (agents.channels pairs agent)) (agents.sources pairs agent) plan.sources.items
  pub channels : Match (ChannelNamed pairs agent) (agents.channels pairs agent) plan.channels.items
  pub sinks : Match (SinkNamed pairs agent (agents.channels pairs agent)) (agents.sinks pairs agent) plan.sinks.items
  pub groups : Match (GroupNamed pairs agent (agents.sinks pairs agent)) (agents.groups pairs agent) plan.groups.items

-- what was seen at fault is what makes this refusal
abbrev pub IsRefused : List Pair → List ℕ → PlanRefused → Type 0
IsRefused pairs agent why = (is_agent pairs agent ≡ true) × (s : Seen) × IsJudged pairs agent s × Refuses s why

-- the plan of the agent, or the first that is at fault; out of memory may come at any time
abbrev pub Plans : List Pair → List ℕ → Result Plan PlanRefused → Type 0
Plans pairs agent (Ok plan) = (is_agent pairs agent ≡ true) × ((s : Seen) × IsJudged pairs agent s × IsRight s) × IsPlan pairs agent plan
Plans pairs agent (Err NoAgent) = is_agent pairs agent ≡ false
Plans pairs agent (Err (UnknownType l)) = IsRefused pairs agent (UnknownType l)
Plans pairs agent (Err (UnknownName l)) = IsRefused pairs agent (UnknownName l)
Plans pairs agent (Err (BadNumber l)) = IsRefused pairs agent (BadNumber l)
Plans pairs agent (Err (BadPattern l)) = IsRefused pairs agent (BadPattern l)
Plans pairs agent (Err (Unsupported l)) = IsRefused pairs agent (Unsupported l)
Plans pairs agent (Err (Clash l)) = IsRefused pairs agent (Clash l)
Plans pairs agent (Err (Missing key)) = IsRefused pairs agent (Missing key)
Plans pairs agent (Err NoMemory) = Unit {0}
