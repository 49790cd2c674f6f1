use Rattle.plan_laws.proofs.Sinks.{sinks_within}
use Rattle.plan_laws.proofs.laws.sinks_name_what_is_there.Goals as goal

pub returns : goal.returns
returns c = λ pairs agent plan planned. sinks_within pairs agent plan planned
