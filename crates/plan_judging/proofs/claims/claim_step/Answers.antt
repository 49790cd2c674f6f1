use Rattle.std.proofs.Common.{◌++◌, codes}
use Rattle.prop_text.specs.Winners.{lookup}
use Rattle.plan_judging.specs.Components.{front_of}
use Rattle.plan_judging.proofs.Joins.{plugin_step}
use Rattle.plan_judging.proofs.claims.claim_step.Goals as goal

pub returns : goal.returns
returns c =
    let front = front_of c.args.place.now.front.now (codes "interceptors.") c.args.name.now in
    rw (← plugin_step (lookup (front ++ codes "type") c.args.place.now.properties.now)) (rw (c.as_str.ensures.value, c.in_ok-front.ensures) at c.claim_plugin.ensures)
