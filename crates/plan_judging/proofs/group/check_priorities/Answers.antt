use Rattle.std.proofs.Common.{[]}
use Rattle.plan_judging.proofs.Joins.{goes_on_texts, ends_texts}
use Rattle.plan_judging.proofs.group.check_priorities.Goals as goal

pub loop-member-preserved : goal.loop-member-preserved
loop-member-preserved c =
    goes_on_texts c.args.members.now (record { ref_ptr = (0, 0); now = [] }) c.loop-member-test.true c.loop-member.invariant (rw (c.as_str.ensures.value, c.in_ok-front.ensures) at c.in_ok-check.ensures)

pub returns : goal.returns
returns c = ends_texts c.args.members.now c.loop-member-test.false c.loop-member.invariant
