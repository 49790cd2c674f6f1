use Rattle.std.proofs.Common.{◌≡◌, false, take}
use Rattle.std.specs.List.{list_any}
use Rattle.regex_steps.specs.Dates.{is_quote}
use Rattle.regex_steps.proofs.date_pattern.first_quote.Given as goal

abbrev pub invariant-loop-place : goal.invariant-loop-place
invariant-loop-place l = list_any is_quote (take l.place l.text) ≡ false
