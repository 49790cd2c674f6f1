use Rattle.std.proofs.Common.{◌≡◌, drop, map}
use Rattle.regex_steps.specs.Dates.{has, piece}
use Rattle.regex_steps.proofs.date_pattern.has_field.Given as goal

abbrev pub invariant-loop-part : goal.invariant-loop-part
invariant-loop-part l = has l.field (map piece (drop l.part-index l.parts)) ≡ has l.field (map piece l.parts)
