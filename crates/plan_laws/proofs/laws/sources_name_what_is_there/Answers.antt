use Rattle.plan_laws.proofs.Names.{sources_within}
use Rattle.plan_laws.proofs.laws.sources_name_what_is_there.Goals as goal

pub returns : goal.returns
returns c = λ pairs agent plan planned. sources_within pairs agent plan planned
