use Rattle.plan_judging.specs.Candidates.{seen}
use Rattle.flume_config.proofs.Outcomes.{refuses_plan}
use Rattle.flume_config.proofs.agent.judged_plan.Goals as goal

pub returns-in-Some : goal.returns-in-Some
returns-in-Some c = refuses_plan _ _ (seen c.in_ok-found.found) c.in-Some.refused c.requires.there c.in_ok-found.ensures c.in-Some.ensures

pub returns : goal.returns
returns c = (c.requires.there, (seen c.in_ok-found.found, c.in_ok-found.ensures, c.in_default.ensures), c.in_ok-plan.ensures)
