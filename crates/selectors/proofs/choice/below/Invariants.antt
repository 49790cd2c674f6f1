use Rattle.std.proofs.Common.{◌≡◌}
use Rattle.selectors.specs.Choices.{without, places_below}
use Rattle.selectors.proofs.choice.below.Given as goal

abbrev pub invariant-loop-place : goal.invariant-loop-place
invariant-loop-place l = l.kept.items ≡ without l.others (places_below l.place)
