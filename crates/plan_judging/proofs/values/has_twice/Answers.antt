use Rattle.std.proofs.Common.{◌≡◌, ◌∙◌, sym, ap, length, nat_lt}
use Rattle.std.proofs.lemmas.List.{length-map}
use Rattle.prop_text.specs.Views.{texts}
use Rattle.plan_judging.proofs.Onces.{once_is_shorter}
use Rattle.plan_judging.proofs.values.has_twice.Goals as goal

pub returns : goal.returns
returns c =
    let names = c.args.names.now in
    let kept = c.in_ok-kept.kept.keys in
    let shorter : length kept ≡ length (texts kept) = sym (length-map kept (λ x. x.now)) in
    let whole : length names ≡ length (texts names) = sym (length-map names (λ x. x.now)) in
    (λ i. nat_lt ((c.len.ensures.len ∙ shorter ∙ ap length c.in_ok-kept.ensures) i) (whole i)) ∙ once_is_shorter (texts names)
