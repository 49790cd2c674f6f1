use Rattle.plan_judging.proofs.Joins.{join, join_last}
use Rattle.plan_judging.proofs.judging.check_lists.Goals as goal

pub returns : goal.returns
returns c = join_last _ _ _ (join (join c.in_ok-check_list.ensures c.in_ok-check_list-2.ensures) c.in_ok-check_list-3.ensures) c.check_list-4.ensures
