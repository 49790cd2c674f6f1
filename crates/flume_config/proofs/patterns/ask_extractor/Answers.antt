use Rattle.std.proofs.Common.{◌≡◌, ◌++◌, codes, ap, ◌∙◌}
use Rattle.prop_text.specs.Views.{texts}
use Rattle.plan_judging.specs.Components.{names_in}
use Rattle.flume_config.proofs.Asking.{ask_last}
use Rattle.flume_config.proofs.patterns.ask_extractor.Goals as goal

pub returns : goal.returns
returns c =
    let pairs = c.args.place.now.properties.now in
    let names : texts c.as_slice.result.now ≡ names_in pairs (c.args.place.now.front.now ++ codes "serializers") =
    ap texts c.as_slice.ensures.keys ∙ c.in_ok-names.ensures in
    ask_last _ _ _ c.in_ok-ask_at.ensures (rw names at c.ask_each.ensures)
