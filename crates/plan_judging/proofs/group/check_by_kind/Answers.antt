use Rattle.plan_judging.proofs.group.check_by_kind.Goals as goal

pub returns-in-None : goal.returns-in-None
returns-in-None c = rw (rw c.in-None.is at c.in_ok-value_at.ensures) c.check_several.ensures

pub returns-in-Some : goal.returns-in-Some
returns-in-Some c = rw (rw c.in-Some.is at c.in_ok-value_at.ensures) c.check_kind.ensures
