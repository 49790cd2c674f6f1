use Rattle.std.proofs.Common.{◌≡◌, ◌++◌, ap, ◌∙◌, codes}
use Rattle.prop_text.specs.Views.{texts}
use Rattle.agent_plan.specs.Values.{text_at, place_of}
use Rattle.flume_config.proofs.planning.SinkPlanComponentPlan.plan_at.Goals as goal

pub returns : goal.returns
returns c =
    let among = texts c.args.channels.now.keys in
    let named = text_at c.args.place.now.properties.now (c.args.place.now.front.now ++ codes "channel") in
    let place : c.in_ok-channel.channel ≡ place_of among named = c.in_ok-channel.ensures ∙ ap (place_of among) c.in_ok-str_at.ensures in
    rw place at c.sink_at.ensures
