use Rattle.plan_judging.proofs.Joins.{join, join_last}
use Rattle.plan_judging.proofs.group.check_group_at.Goals as goal

pub returns : goal.returns
returns c = join_last _ _ _ (join (join c.in_ok-check_names.ensures c.in_ok-check_rows.ensures) c.in_ok-check_by_kind.ensures) (rw (← c.requires) at c.check_one_channel.ensures)
