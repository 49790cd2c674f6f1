use Rattle.plan_judging.proofs.Joins.{join, join_last}
use Rattle.plan_judging.proofs.selecting.check_multiplexing.Goals as goal

pub returns : goal.returns
returns c = join_last _ _ _ (join c.in_ok-check_row.ensures c.in_ok-check_mapped.ensures) c.check_mapped-2.ensures
