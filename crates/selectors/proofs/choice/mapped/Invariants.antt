use Rattle.std.proofs.Common.{◌≡◌, drop}
use Rattle.selectors.specs.Choices.{mapped_value}
use Rattle.selectors.proofs.choice.mapped.Given as goal

abbrev pub invariant-loop-i : goal.invariant-loop-i
invariant-loop-i l = mapped_value l.pairs l.value ≡ mapped_value (drop l.i l.pairs) l.value
