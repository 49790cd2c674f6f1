use Rattle.plan_judging.proofs.Joins.{join, join_last, add_nothing}
use Rattle.plan_judging.proofs.sink.check_sink.Goals as goal

pub returns-in-None : goal.returns-in-None
returns-in-None c = join (join c.in_ok-check_rows.ensures c.in_ok-check_name.ensures) (rw (rw c.in-None.is at c.in_ok-type_at.ensures) (add_nothing _))

pub returns-in-Some : goal.returns-in-Some
returns-in-Some c = join_last _ _ _ (join c.in_ok-check_rows.ensures c.in_ok-check_name.ensures) (rw (rw c.in-Some.is at c.in_ok-type_at.ensures) c.check_kind.ensures)
