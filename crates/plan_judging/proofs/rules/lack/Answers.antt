use Rattle.plan_judging.proofs.Joins.{add_nothing}
use Rattle.plan_judging.proofs.rules.lack.Goals as goal

pub returns-else-required : goal.returns-else-required
returns-else-required c = rw c.if-required.false (add_nothing _)
