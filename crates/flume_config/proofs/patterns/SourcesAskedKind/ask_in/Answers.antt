use Rattle.std.proofs.Common.{◌≡◌, ◌++◌, codes, ap, ◌∙◌}
use Rattle.prop_text.specs.Views.{texts}
use Rattle.plan_judging.specs.Components.{names_in}
use Rattle.flume_config.proofs.patterns.SourcesAskedKind.ask_in.Goals as goal

pub returns : goal.returns
returns c =
    let pairs = c.args.place.now.properties.now in
    let names : texts c.as_slice.result.now ≡ names_in pairs (c.args.place.now.front.now ++ codes "interceptors") =
    ap texts c.as_slice.ensures.keys ∙ c.in_ok-names.ensures in
    rw names at c.ask_each.ensures
