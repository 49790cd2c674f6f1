use Rattle.std.proofs.Common.{map, take, drop}
use Rattle.regex_steps.specs.Dates.{piece, civil_in}
use Rattle.regex_steps.proofs.DateTexts.{HasRead}
use Rattle.regex_steps.proofs.date_pattern.DatePattern.civil_time.Given as goal

abbrev pub invariant-loop-part : goal.invariant-loop-part
invariant-loop-part l =
    HasRead (map piece (take l.part-index l.part-items)) (map piece (drop l.part-index l.part-items)) l.fn.text l.rest (civil_in (map piece l.part-items) l.fn.text) l.time
