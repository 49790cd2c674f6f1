use Rattle.regex_steps.proofs.Searching.{is_text, no_text}
use Rattle.regex_steps.proofs.patterns.Patterns.replace.Goals as goal

pub returns-in_ok-made-in-Ok : goal.returns-in_ok-made-in-Ok
returns-in_ok-made-in-Ok c =
    let text = is_text c.args.body.now c.in-Ok.ensures.cases.1 in
    let made = rw c.in-Ok.ensures.cases.0 at c.in_ok-made-in-Ok.ensures in
    rw (text, c.into_bytes.ensures.value) made

pub returns-in-Err : goal.returns-in-Err
returns-in-Err c =
    let text = no_text c.args.body.now c.in-Err.ensures.cases.0 in
    rw text c.replace_in_bytes.ensures
