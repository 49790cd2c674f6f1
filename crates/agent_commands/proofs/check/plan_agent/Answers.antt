use Rattle.std.proofs.Common.{List, ℕ, subst}
use Rattle.plan_objects.specs.Asks.{lacking}
use Rattle.agent_commands.specs.Checked.{Judges}
use Rattle.agent_commands.proofs.Checks.{judged}
use Rattle.agent_commands.proofs.check.plan_agent.Goals as goal

pub returns-in-Ok-clause-planned : goal.returns-in-Ok-clause-planned
returns-in-Ok-clause-planned g c =
    judged _ _ _ _ _ c.in-Ok.ensures.state.0 c.in-Ok.bytes.items _ c.in-Ok.ensures.state.1 c.in-Ok.ensures.state.2
    (subst (λ (b : List ℕ). Judges (lacking c.args.handed.now) b c.args.agent.now c.plan_in.result) c.as_slice.ensures.value c.plan_in.ensures.judged)
