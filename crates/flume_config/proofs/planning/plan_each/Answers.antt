use Rattle.std.proofs.Common.{[]}
use Rattle.flume_config.proofs.Making.{makes_on, made_all}
use Rattle.flume_config.proofs.planning.plan_each.Goals as goal

pub loop-name-preserved : goal.loop-name-preserved
loop-name-preserved g c = rw c.in_ok-push.ensures.items (makes_on (record { ref_ptr = (0, 0); now = [] }) c.in_ok-plan_one.field-0 c.loop-name-test.true c.loop-name.invariant c.in_ok-plan_one.ensures)

pub returns : goal.returns
returns g c = made_all c.loop-name-test.false c.loop-name.invariant
