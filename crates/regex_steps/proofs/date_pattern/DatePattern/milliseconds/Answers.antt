use Rattle.std.proofs.Common.{◌∙◌}
use Rattle.regex_steps.proofs.DateTexts.{date_is, no_date_is}
use Rattle.regex_steps.proofs.date_pattern.DatePattern.milliseconds.Goals as goal

pub returns-in-Some : goal.returns-in-Some
returns-in-Some c = c.milliseconds.ensures ∙ date_is c.args.self.now c.args.text.now c.in-Some.time c.in-Some.ensures.some.0 c.in-Some.ensures.some.1

pub returns-in-None : goal.returns-in-None
returns-in-None c = no_date_is c.args.self.now c.args.text.now c.in-None.ensures.none
