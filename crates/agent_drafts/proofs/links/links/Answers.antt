use Rattle.std.proofs.Common.{◌≡◌, ◌∙◌, ◌+◌, ◌++◌, List, [], ◌∷◌, length, take, sym, ap, subst, arith, append_assoc, length-append}
use Rattle.std.proofs.lemmas.List.{take_more}
use Rattle.agent_plan.specs.declared.plan.StepPlan.{StepPlan}
use Rattle.chain_plan.specs.declared.plan.LinkPlan.{LinkPlan}
use Rattle.agent_drafts.specs.Drafts.{Deals, IsLink}
use Rattle.agent_drafts.proofs.Dealing.{dealt_more, linked_many, next_asks}
use Rattle.agent_drafts.proofs.links.links.Goals as goal

pub link-requires : goal.link-requires
link-requires g c =
    let steps = c.args.steps.now in
    let i = c.loop-step.step-index in
    let step = c.step-item.result in
    let all = next_asks steps i step c.loop-step-test.true c.step-item.is in
    let inv = c.loop-step.invariant.enough in
    omega (arith, all, inv)

pub loop-step-preserved : goal.loop-step-preserved
loop-step-preserved g c =
    let B = g.row.B.Denot in
    let steps = c.args.steps.now in
    let i = c.loop-step.step-index in
    let step = c.step-item.result in
    let link = c.in_ok-link.field-0 in
    let R = λ (s : StepPlan) (own : List B) (l : LinkPlan B). IsLink s own l in
    let before = c.loop-step.invariant.dealt in
    let one = c.in_ok-link.ensures in
    let left = c.link.new.objects.items in
    let all = next_asks steps i step c.loop-step-test.true c.step-item.is in
    let many = linked_many step one.0 link one.2 in
    let long : length c.loop-step.objects.items ≡ length one.0 + length left = ap length one.1 ∙ length-append one.0 left in
    let inv = c.loop-step.invariant.enough in
    record {
      dealt = (
        before.0 ++ one.0,
        before.1 ∙ ap (λ (l : List B). before.0 ++ l) one.1 ∙ sym (append_assoc before.0 one.0 left),
        subst (λ (x : List StepPlan × List (LinkPlan B)). Deals R x.0 (before.0 ++ one.0) x.1)
            (λ j. ((ap (λ (s : StepPlan). take i steps ++ s ∷ []) c.step-item.is ∙ sym (take_more steps i step c.loop-step-test.true)) j, sym c.in_ok-push.ensures.items j))
            (dealt_more R (take i steps) before.0 c.loop-step.links.items step one.0 link before.2 one.2),
      );
      enough = omega (arith, all, many, long, inv);
    }
