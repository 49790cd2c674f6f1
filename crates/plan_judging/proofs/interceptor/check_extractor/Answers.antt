use Rattle.std.proofs.Common.{◌≡◌, ◌++◌, codes, ap, ◌∙◌}
use Rattle.prop_text.specs.Views.{texts}
use Rattle.plan_judging.specs.Components.{names_in}
use Rattle.plan_judging.proofs.Joins.{join, join_last}
use Rattle.plan_judging.proofs.interceptor.check_extractor.Goals as goal

pub returns : goal.returns
returns c =
    let pairs = c.args.place.now.properties.now in
    let names : texts c.as_slice.result.now ≡ names_in pairs (c.args.place.now.front.now ++ codes "serializers") =
    ap texts c.as_slice.ensures.keys ∙ c.in_ok-names.ensures in
    join_last _ _ _ (join c.in_ok-check_rows.ensures c.in_ok-check_list.ensures) (rw names at c.check_serializers.ensures)
