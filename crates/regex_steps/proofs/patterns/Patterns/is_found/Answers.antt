use Rattle.regex_steps.proofs.Searching.{is_text, no_text}
use Rattle.regex_steps.proofs.patterns.Patterns.is_found.Goals as goal

pub returns-in_ok-matcher-in-Ok : goal.returns-in_ok-matcher-in-Ok
returns-in_ok-matcher-in-Ok c =
    let text = is_text c.args.body.now c.in-Ok.ensures.cases.1 in
    rw text (rw (c.in_ok-matcher-in-Ok.ensures.pattern, c.in-Ok.ensures.cases.0) at c.is_match.ensures.found)

pub returns-in_ok-matcher-in-Err : goal.returns-in_ok-matcher-in-Err
returns-in_ok-matcher-in-Err c =
    let text = no_text c.args.body.now c.in-Err.ensures.cases.0 in
    rw text (rw c.in_ok-matcher-in-Err.ensures.pattern at c.is_match-in-Err.ensures.found)
