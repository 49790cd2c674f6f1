use Rattle.std.proofs.Common.{◌∙◌, ◌++◌, ◌∷◌, [], ap, sym, List, ℕ, add-one}
use Rattle.selectors.specs.Choices.{without, places_below}
use Rattle.selectors.proofs.Places.{without-append}
use Rattle.selectors.proofs.choice.below.Goals as goal

pub loop-place-preserved : goal.loop-place-preserved
loop-place-preserved c =
    rw add-one (c.in_ok-add.ensures ∙ ap (λ (l : List ℕ). l ++ without c.args.others.now (c.loop-place.place ∷ [])) c.loop-place.invariant ∙ sym (without-append c.args.others.now (places_below c.loop-place.place) (c.loop-place.place ∷ [])))
