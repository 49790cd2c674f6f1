use Rattle.plan_judging.proofs.Joins.{join_last}
use Rattle.plan_judging.proofs.interceptor.check_serializer.Goals as goal

pub returns : goal.returns
returns c = join_last _ _ _ c.in_ok-check_rows.ensures c.check_date.ensures
