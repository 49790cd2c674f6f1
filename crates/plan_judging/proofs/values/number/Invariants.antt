use Rattle.std.proofs.Common.{◌≡◌, drop}
use Rattle.plan_judging.specs.Words.{decimal_behind}
use Rattle.plan_judging.proofs.values.number.Given as goal

abbrev pub invariant-loop-byte : goal.invariant-loop-byte
invariant-loop-byte l = decimal_behind l.number (drop l.byte-index l.byte-items) ≡ decimal_behind 0 l.text
