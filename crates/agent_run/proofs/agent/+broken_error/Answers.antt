use Rattle.std.proofs.Common.{rules, ◌≡◌, List, ◌∷◌, Bool, Result, sym, subst}
use Rattle.channel_face.specs.declared.replies.OpenCause.{OpenCause}
use Rattle.agent_plan.specs.declared.plan.ChannelPlan.{ChannelPlan}
use Rattle.agent_run.specs.Errors.{IsBrokenError}
use Rattle.agent_run.proofs.Broken.{broken_later}
use Rattle.agent_run.proofs.agent.+broken_error.Goals as goal

pub returns-in-None : goal.returns-in-None
returns-in-None t c =
    let plan = c.in-Some.plan.now in
    let plans = c.in-Some.other_plans.now in
    let mended = c.in-Some-split_first.mended.now in
    let others = c.in-Some-split_first.others.now in
    let split : c.args.plans.now ≡ plan ∷ plans = search rules in
    let parts : c.args.mends.now ≡ mended ∷ others = search rules in
    subst (λ (x : List ChannelPlan × List (Result Bool OpenCause)). IsBrokenError x.0 x.1 c.broken_error.result)
    (λ i. (sym split i, sym parts i)) (broken_later plan plans mended others c.broken_error.result c.in-None.ensures c.broken_error.ensures)
