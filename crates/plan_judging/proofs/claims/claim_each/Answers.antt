use Rattle.std.proofs.Common.{[]}
use Rattle.plan_judging.proofs.Joins.{gathers_on, gathered}
use Rattle.plan_judging.proofs.claims.claim_each.Goals as goal

pub loop-name-preserved : goal.loop-name-preserved
loop-name-preserved c = gathers_on (record { ref_ptr = (0, 0); now = [] }) c.loop-name-test.true c.loop-name.invariant c.in_ok-claim_step.ensures

pub returns : goal.returns
returns c = gathered c.loop-name-test.false c.loop-name.invariant
