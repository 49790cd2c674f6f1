use Rattle.plan_laws.proofs.Sinks.{groups_within}
use Rattle.plan_laws.proofs.laws.groups_name_what_is_there.Goals as goal

pub returns : goal.returns
returns c = λ pairs agent plan planned. groups_within pairs agent plan planned
