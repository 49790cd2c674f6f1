use Rattle.plan_judging.proofs.Joins.{join_last}
use Rattle.plan_judging.proofs.selecting.check_selector.Goals as goal

pub returns-in-None : goal.returns-in-None
returns-in-None c = join_last _ _ _ c.in_ok-check_rows.ensures (rw (rw c.in-None.is at c.in_ok-type_at.ensures) c.check_row.ensures)

pub returns-in-Some : goal.returns-in-Some
returns-in-Some c = join_last _ _ _ c.in_ok-check_rows.ensures (rw (rw c.in-Some.is at c.in_ok-type_at.ensures) c.check_kind.ensures)
