use Rattle.agent_plan.specs.Faults.{candidates}
use Rattle.agent_plan.proofs.First.{first_is_first}
use Rattle.agent_plan.proofs.laws.first_fault_is_first.Goals as goal

pub returns : goal.returns
returns c = λ pairs agent verdicts. first_is_first (candidates pairs agent verdicts).faults
