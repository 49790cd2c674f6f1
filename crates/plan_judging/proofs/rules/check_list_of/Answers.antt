use Rattle.std.proofs.Common.{◌≡◌, ap, ◌∙◌}
use Rattle.prop_text.specs.Views.{texts}
use Rattle.plan_judging.specs.Words.{words}
use Rattle.plan_judging.proofs.Joins.{join}
use Rattle.plan_judging.proofs.rules.check_list_of.Goals as goal

pub returns : goal.returns
returns c =
    let names : texts c.as_slice.result.now ≡ words c.args.value.now = ap texts c.as_slice.ensures.value ∙ c.in_ok-names.ensures in
    let again : texts c.as_slice-2.result.now ≡ words c.args.value.now = ap texts c.as_slice-2.ensures.value ∙ c.in_ok-names.ensures in
    join (rw names at c.in_ok-check_twice.ensures) (rw again at c.check_known.ensures)
