use Rattle.std.proofs.Common.{[]}
use Rattle.plan_judging.proofs.Joins.{goes_on_texts, ends_texts}
use Rattle.plan_judging.proofs.group.check_others.Goals as goal

pub loop-other-preserved : goal.loop-other-preserved
loop-other-preserved c = goes_on_texts c.args.others.now (record { ref_ptr = (0, 0); now = [] }) c.loop-other-test.true c.loop-other.invariant c.in_ok-check_other.ensures

pub returns : goal.returns
returns c = ends_texts c.args.others.now c.loop-other-test.false c.loop-other.invariant
