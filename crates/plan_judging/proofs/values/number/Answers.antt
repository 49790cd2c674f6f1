use Rattle.std.proofs.Common.{◌≡◌, ◌*◌, ◌+◌, ◌-◌, ◌<◌, true, get_or, sym, ◌∙◌, arith}
use Rattle.std.specs.Char.{is_ascii_digit}
use Rattle.plan_judging.proofs.WordSteps.{passes}
use Rattle.plan_judging.proofs.values.number.Goals as goal

pub returns-then-digit-number : goal.returns-then-digit-number
returns-then-digit-number c =
    let text = c.as_bytes-byte-items.result.now in
    let i = c.loop-byte.byte-index in
    let whole = c.as_bytes-byte-items.ensures.value in
    let digit : is_ascii_digit (get_or text i 0) ≡ true = sym c.is_ascii_digit.ensures.value ∙ c.if-not-is_ascii_digit.false in
    let over : 18446744073709551615 < c.loop-byte.number * 10 + (get_or text i 0 - 48) = omega arith in
    sym (rw whole at (passes 18446744073709551615 c.loop-byte.number i text c.loop-byte-test.true digit (rw (← whole) at c.loop-byte.invariant) over))
