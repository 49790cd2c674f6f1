use Rattle.std.proofs.Common.{arith, ◌∙◌}
use Rattle.channel_writing.proofs.folder.last_log.Goals as goal

pub returns-in-Ok-Some-Check-clause-cause : goal.returns-in-Ok-Some-Check-clause-cause
returns-in-Ok-Some-Check-clause-cause g c =
    let well = c.in-Ok-Some-Check.ensures.cause.well in
    record { later = omega (arith, c.loop-number.invariant.well, well); well = well ∙ c.loop-number.invariant.well; failed = tt }

pub returns-in-Ok-None-clause-cause : goal.returns-in-Ok-None-clause-cause
returns-in-Ok-None-clause-cause g c =
    let well = c.in-Ok-None.ensures.cause.well in
    record { later = omega (arith, c.loop-number.invariant.well, well); well = well ∙ c.loop-number.invariant.well; failed = tt }
