use Rattle.std.proofs.Common.{[]}
use Rattle.prop_text.specs.Views.{texts}
use Rattle.plan_judging.specs.Claims.{member_wish}
use Rattle.plan_judging.proofs.Joins.{gathers, gathers_on, gathered, flat_one}
use Rattle.plan_judging.proofs.claims.claim_members.Goals as goal

pub loop-member-init : goal.loop-member-init
loop-member-init c = gathers _ _ _

pub loop-member-preserved : goal.loop-member-preserved
loop-member-preserved c = gathers_on (record { ref_ptr = (0, 0); now = [] }) c.loop-member-test.true c.loop-member.invariant c.in_ok-push.ensures

pub returns : goal.returns
returns c = rw (← flat_one (member_wish c.args.line) (texts c.args.members.now)) (gathered c.loop-member-test.false c.loop-member.invariant)
