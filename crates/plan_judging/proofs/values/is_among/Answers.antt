use Rattle.std.proofs.Common.{◌∙◌}
use Rattle.plan_judging.proofs.Onces.{among_texts}
use Rattle.plan_judging.proofs.values.is_among.Goals as goal

pub returns : goal.returns
returns c = c.contains.ensures ∙ among_texts c.args.name.now c.args.names.now.keys
