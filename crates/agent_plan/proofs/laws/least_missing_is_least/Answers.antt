use Rattle.agent_plan.specs.Faults.{candidates}
use Rattle.agent_plan.proofs.First.{least_is_least}
use Rattle.agent_plan.proofs.laws.least_missing_is_least.Goals as goal

pub returns : goal.returns
returns c = λ pairs agent verdicts. least_is_least (candidates pairs agent verdicts).missing
