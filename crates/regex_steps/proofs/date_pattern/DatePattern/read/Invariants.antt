use Rattle.std.proofs.Common.{map, length}
use Rattle.regex_steps.specs.Dates.{piece}
use Rattle.regex_steps.proofs.DatePieces.{IsFront}
use Rattle.regex_steps.proofs.date_pattern.DatePattern.read.Given as goal

abbrev pub decreases-loop-rest : goal.decreases-loop-rest
decreases-loop-rest l = length l.rest

abbrev pub invariant-loop-rest : goal.invariant-loop-rest
invariant-loop-rest l = IsFront l.fn.text l.rest (map piece l.parts.items)
