use Rattle.std.proofs.Common.{◌≡◌, List, ℕ, ap, ◌∙◌}
use Rattle.plan_judging.specs.Components.{front_of}
use Rattle.flume_config.proofs.planning.plan_one.Goals as goal

pub returns : goal.returns
returns g c =
    let agent = c.args.agent.now.name.now in
    let front_is : c.as_str.result.now ≡ front_of agent g.P.ComponentPlan.between c.args.name.now =
    c.as_str.ensures.value ∙ (c.in_ok-front.ensures ∙ ap (λ (part : List ℕ). front_of agent part c.args.name.now) c.infix.ensures) in
    rw front_is at c.plan_at.ensures
