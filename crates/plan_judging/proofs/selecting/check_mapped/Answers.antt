use Rattle.std.proofs.Common.{arith}
use Rattle.plan_judging.proofs.Joins.{begins, goes_on, ends, drop_from_get}
use Rattle.plan_judging.proofs.selecting.check_mapped.Goals as goal

pub loop-at-init : goal.loop-at-init
loop-at-init c = begins _ _ _

pub loop-at-preserved : goal.loop-at-preserved
loop-at-preserved c =
    goes_on _ (drop_from_get c.args.place.now.properties.now c.loop-at.at _ c.at-line.ensures) c.loop-at.invariant
    (rw (c.as_str.ensures.value, c.in_ok-front.ensures) at c.in_ok-check_key.ensures)

pub returns : goal.returns
returns c = ends (omega (arith, c.len-at-end.ensures)) c.loop-at.invariant
