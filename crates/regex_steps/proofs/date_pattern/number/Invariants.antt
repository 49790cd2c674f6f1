use Rattle.std.proofs.Common.{◌≡◌, ◌<◌, ◌^◌, true, take}
use Rattle.regex_steps.specs.Dates.{are_digits, number}
use Rattle.regex_steps.proofs.date_pattern.number.Given as goal

abbrev pub invariant-loop-digit : goal.invariant-loop-digit
invariant-loop-digit l = record {
  digits : are_digits (take l.digit-index l.digits) ≡ true;
  is : l.number ≡ number (take l.digit-index l.digits);
  bound : l.number < 10 ^ l.digit-index;
}
