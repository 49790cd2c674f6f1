-- A refusal of what was found is one of the plan.
use Rattle.std.proofs.Common.{◌≡◌, ℕ, List, true, Err}
use Rattle.prop_text.specs.Pairs.{Pair}
use Rattle.plan_refused.specs.declared.refused.PlanRefused.{PlanRefused}
use Rattle.plan_refused.specs.declared.refused.PlanRefused.TheVariants.{NoAgent, UnknownType, UnknownName, BadNumber, BadPattern, Unsupported, Clash, Missing, NoMemory}
use Rattle.plan_judging.specs.Agents.{is_agent}
use Rattle.plan_judging.specs.Candidates.{Seen}
use Rattle.agent_plan.specs.Plans.{Refuses, IsJudged, Plans}

-- where an agent's texts were judged and refused, that refusal answers for its plan
pub refuses_plan : (pairs : List Pair) (agent : List ℕ) (s : Seen) (e : PlanRefused) → is_agent pairs agent ≡ true → IsJudged pairs agent s → Refuses s e → Plans pairs agent (Err e)
refuses_plan pairs agent s NoAgent there is h = absurd h
refuses_plan pairs agent s (UnknownType l) there is h = (there, s, is, h)
refuses_plan pairs agent s (UnknownName l) there is h = (there, s, is, h)
refuses_plan pairs agent s (BadNumber l) there is h = (there, s, is, h)
refuses_plan pairs agent s (BadPattern l) there is h = (there, s, is, h)
refuses_plan pairs agent s (Unsupported l) there is h = (there, s, is, h)
refuses_plan pairs agent s (Clash l) there is h = (there, s, is, h)
refuses_plan pairs agent s (Missing key) there is h = (there, s, is, h)
refuses_plan pairs agent s NoMemory there is h = tt
