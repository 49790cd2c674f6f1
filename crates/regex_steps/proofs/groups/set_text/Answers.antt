use Rattle.regex_steps.proofs.Searching.{is_text, no_text}
use Rattle.regex_steps.proofs.groups.set_text.Goals as goal

pub returns-in-Ok : goal.returns-in-Ok
returns-in-Ok c =
    let text = is_text c.args.bytes.now c.in-Ok.ensures.cases.1 in
    rw text (rw c.in-Ok.ensures.cases.0 at c.set.ensures.ok)

pub returns-in-Err : goal.returns-in-Err
returns-in-Err c =
    let text = no_text c.args.bytes.now c.in-Err.ensures.cases.0 in
    rw text
