use Rattle.std.proofs.Common.{[]}
use Rattle.plan_judging.proofs.Joins.{goes_on_texts, ends_texts}
use Rattle.plan_judging.proofs.interceptor.check_each.Goals as goal

pub loop-name-preserved : goal.loop-name-preserved
loop-name-preserved c = goes_on_texts c.args.names.now (record { ref_ptr = (0, 0); now = [] }) c.loop-name-test.true c.loop-name.invariant c.in_ok-check_step_named.ensures

pub returns : goal.returns
returns c = ends_texts c.args.names.now c.loop-name-test.false c.loop-name.invariant
