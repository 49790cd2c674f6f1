use Rattle.plan_laws.proofs.Once.{sinks_once}
use Rattle.plan_laws.proofs.laws.sinks_stand_once.Goals as goal

pub returns : goal.returns
returns c = λ pairs agent plan planned. sinks_once pairs agent plan planned
