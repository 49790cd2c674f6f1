use Rattle.std.proofs.Common.{◌∙◌, ◌+◌, drop, fold, ap, sym}
use Rattle.std.proofs.lemmas.List.{drop_more}
use Rattle.prop_text.specs.Views.{texts}
use Rattle.plan_judging.proofs.Onces.{kept_with, kept_is_once, key_is_kept}
use Rattle.plan_judging.proofs.values.once.Goals as goal

pub loop-name-init : goal.loop-name-init
loop-name-init c = rw c.new-kept.ensures.empty (kept_is_once (texts c.args.names.now))

pub loop-name-preserved : goal.loop-name-preserved
loop-name-preserved c =
    let names = c.args.names.now in
    let i = c.loop-name.name-index in
    let left = texts (drop (i + 1) names) in
    let kept = c.loop-name.kept.keys in
    ap (λ l. fold kept_with l left) (ap texts c.in_ok-insert.ensures.keys ∙ key_is_kept kept _)
    ∙ ap (λ l. fold kept_with (texts kept) (texts l)) (sym (drop_more names i _ c.loop-name-test.true))
    ∙ c.loop-name.invariant
