use Rattle.plan_judging.proofs.Joins.{add_nothing}
use Rattle.plan_judging.proofs.selecting.check_row.Goals as goal

pub returns-in-None : goal.returns-in-None
returns-in-None c = rw (rw c.in-None.is at c.in_ok-value_at.ensures) (add_nothing _)
