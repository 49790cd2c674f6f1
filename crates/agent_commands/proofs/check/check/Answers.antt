use Rattle.std.proofs.Common.{◌≡◌, ◌∙◌, ℕ, ap, subst, sym}
use Rattle.agent_words.specs.Statuses.{status_of}
use Rattle.plan_objects.specs.Asks.{lacking}
use Rattle.agent_commands.specs.Checked.{Checked, end_of}
use Rattle.agent_commands.proofs.Checks.{handed_on, out_of_memory, printed, printed_part, unplanned}
use Rattle.agent_commands.proofs.check.check.Goals as goal

pub returns-in-Ok-clause-checked : goal.returns-in-Ok-clause-checked
returns-in-Ok-clause-checked g c =
    let e = c.in-Ok.ensures in
    printed _ _ _ _ _ _ _ c.in_ok-planned.planned.plan c.in_ok-planned.ensures.planned.0 c.in_ok-planned.ensures.planned.1 (c.as_str.ensures.value ∙ c.in_ok-text.ensures) e.rest e.cause.well e.handed e.whole

pub returns-clause-checked : goal.returns-clause-checked
returns-clause-checked g c =
    let e = c.in-Err.ensures in
    printed_part _ _ _ _ _ _ _ c.in_ok-planned.planned.plan c.in_ok-planned.ensures.planned.0 c.in_ok-planned.ensures.planned.1 (c.as_str.ensures.value ∙ c.in_ok-text.ensures) e.rest e.cause.failed e.front

pub returns-in_err-planned-clause-checked : goal.returns-in_err-planned-clause-checked
returns-in_err-planned-clause-checked g c =
    let on = handed_on c.from_residual.result _ c.from_residual.ensures.0 c.from_residual.ensures.1 in
    let same : on.0 ≡ c.in_err-planned.field-0.0 = on.1 in
    let lacks = lacking c.args.handed.now in
    let file = (g.H.Host.state c.args.host.now).files c.args.file.now in
    subst (λ (n : ℕ). Checked lacks file c.args.agent.now (g.H.Host.state c.args.host.now) (g.H.Host.state c.plan_agent.new.host) n) (sym (on.2 ∙ ap status_of same))
    (unplanned lacks file c.args.agent.now (g.H.Host.state c.args.host.now) (g.H.Host.state c.plan_agent.new.host) (status_of c.in_err-planned.field-0.0) c.in_err-planned.ensures.planned)

pub returns-in_err-text-clause-checked : goal.returns-in_err-text-clause-checked
returns-in_err-text-clause-checked g c =
    let answer = c.from_residual-in_err-text in
    let on = handed_on answer.result _ answer.ensures.0 answer.ensures.1 in
    let five : end_of answer.result ≡ 5 = on.2 ∙ ap status_of on.1 in
    out_of_memory _ _ _ _ _ _ five c.in_ok-planned.ensures.planned.1
