use Rattle.std.proofs.Common.{arith, rules}
use Rattle.regex_steps.proofs.DateTexts.{number_step}
use Rattle.regex_steps.proofs.date_pattern.number.Goals as goal

pub loop-digit-preserved : goal.loop-digit-preserved
loop-digit-preserved c =
    let i = c.loop-digit.digit-index in
    let so_far = c.loop-digit.invariant in
    let next = number_step c.args.digits.now i c.loop-digit.number c.from.result c.loop-digit-test.true (search rules) (omega arith) so_far.digits so_far.is so_far.bound in
    record { digits = next.0; is = next.1; bound = next.2 }
