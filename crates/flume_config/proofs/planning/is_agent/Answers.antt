use Rattle.std.proofs.Common.{nat_eq, ap, sym, ◌∙◌}
use Rattle.std.specs.List.{starts_with}
use Rattle.flume_config.proofs.AgentSteps.{agent_found, agent_passed}
use Rattle.flume_config.proofs.planning.is_agent.Goals as goal

pub returns-then-begins : goal.returns-then-begins
returns-then-begins c =
    let test = ap (λ f. starts_with nat_eq c.at.result.0.now f) (sym (c.as_str.ensures.value ∙ c.in_ok-front.ensures)) ∙ sym c.begins.ensures ∙ c.if-begins.true in
    sym (agent_found c.args.properties.now c.args.agent.now c.loop-at.at _ c.at.ensures test) ∙ c.loop-at.invariant

pub loop-at-preserved : goal.loop-at-preserved
loop-at-preserved c =
    let test = ap (λ f. starts_with nat_eq c.at.result.0.now f) (sym (c.as_str.ensures.value ∙ c.in_ok-front.ensures)) ∙ sym c.begins.ensures ∙ c.if-begins.false in
    sym (agent_passed c.args.properties.now c.args.agent.now c.loop-at.at _ c.at.ensures test) ∙ c.loop-at.invariant
