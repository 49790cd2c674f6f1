use Rattle.std.proofs.Common.{◌++◌, arith, refl, map}
use Rattle.prop_text.specs.Views.{texts}
use Rattle.agent_plan.specs.Values.{mapped_at, seen_pair}
use Rattle.plan_judging.proofs.CommaSteps.{pair_goes, pairs_end}
use Rattle.flume_config.proofs.routing.mapped.Goals as goal

pub loop-at-init : goal.loop-at-init
loop-at-init c = rw c.new-found.ensures.items refl

pub loop-at-preserved : goal.loop-at-preserved
loop-at-preserved c =
    pair_goes (mapped_at (texts c.args.channels.now.keys) (c.args.place.now.front.now ++ c.args.key.now)) c.args.place.now.properties.now c.loop-at.at _ (map seen_pair c.loop-at.found.items) _ _ c.at-line.ensures
    (rw (c.as_str.ensures.value, c.in_ok-front.ensures) at c.in_ok-push_mapped.ensures) c.loop-at.invariant

pub returns : goal.returns
returns c =
    pairs_end (mapped_at (texts c.args.channels.now.keys) (c.args.place.now.front.now ++ c.args.key.now)) c.args.place.now.properties.now c.loop-at.at (map seen_pair c.loop-at.found.items) _ (omega (arith, c.len-at-end.ensures, c.loop-at-test.false)) c.loop-at.invariant
