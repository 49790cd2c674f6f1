use Rattle.std.proofs.Common.{◌≡◌, take}
use Rattle.selectors.specs.Choices.{without}
use Rattle.selectors.proofs.choice.kept.Given as goal

abbrev pub invariant-loop-i : goal.invariant-loop-i
invariant-loop-i l = l.kept.items ≡ without l.others (take l.i l.places)
