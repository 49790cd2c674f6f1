use Rattle.std.proofs.Common.{◌≡◌, ◌<◌, false, nat_eq}
use Rattle.std.specs.List.{starts_with}
use Rattle.regex_steps.specs.declared.civil.Field.{Field}
use Rattle.regex_steps.specs.Dates.{code, letters}
use Rattle.regex_steps.proofs.date_pattern.first_field.Given as goal

abbrev pub invariant-loop-field : goal.invariant-loop-field
invariant-loop-field l = (f : Field) → code f < l.field-index → starts_with nat_eq l.text (letters f) ≡ false
