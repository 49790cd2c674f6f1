use Rattle.std.proofs.Common.{Bool, true, false, subst}
use Rattle.agent_plan.specs.Patterns.{IsVerdict}
use Rattle.plan_judging.proofs.Joins.{add_nothing}
use Rattle.flume_config.proofs.Asking.{ask_one}
use Rattle.flume_config.proofs.patterns.ask.Goals as goal

pub returns-then-bad : goal.returns-then-bad
returns-then-bad c =
    let V : Bool → Type 0 = λ b. IsVerdict c.args.is_date b c.args.text.now in
    ask_one _ true (subst V c.if-bad.true c.in_ok-bad.ensures) (record { is = c.refuse.ensures })

pub returns-else-bad : goal.returns-else-bad
returns-else-bad c =
    let V : Bool → Type 0 = λ b. IsVerdict c.args.is_date b c.args.text.now in
    ask_one _ false (subst V c.if-bad.false c.in_ok-bad.ensures) (add_nothing _)
