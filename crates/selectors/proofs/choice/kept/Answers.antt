use Rattle.std.proofs.Common.{◌∙◌, ◌++◌, ◌∷◌, [], ap, sym, List, ℕ, take, get_or, add-one, arith}
use Rattle.std.proofs.Math.Seq.{take-suc}
use Rattle.selectors.specs.Choices.{without}
use Rattle.selectors.proofs.Places.{without-append}
use Rattle.selectors.proofs.choice.kept.Goals as goal

pub loop-i-preserved : goal.loop-i-preserved
loop-i-preserved c =
    let xs = c.args.places.now in
    let here = get_or xs c.loop-i.i 0 in
    rw (add-one, take-suc xs c.loop-i.i 0 (omega arith)) (c.in_ok-add.ensures ∙ ap (λ (l : List ℕ). l ++ without c.args.others.now (here ∷ [])) c.loop-i.invariant ∙ sym (without-append c.args.others.now (take c.loop-i.i xs) (here ∷ [])))
