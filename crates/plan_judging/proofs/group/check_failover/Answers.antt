use Rattle.plan_judging.proofs.Joins.{join_last}
use Rattle.plan_judging.proofs.group.check_failover.Goals as goal

pub returns : goal.returns
returns c = join_last _ _ _ c.in_ok-check_priorities.ensures c.check_rows.ensures
