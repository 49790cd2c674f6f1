use Rattle.std.proofs.Common.{rules, List, map, sym, subst, arith}
use Rattle.agent_plan.specs.declared.plan.ChannelPlan.{ChannelPlan}
use Rattle.run_opening.specs.Labels.{AreLabels, user_of}
use Rattle.run_opening.specs.declared.labels.ChannelLabel.{ChannelLabel}
use Rattle.run_opening.proofs.Labelling.{labels_and}
use Rattle.run_opening.proofs.labels.+add_labels.Goals as goal

pub returns : goal.returns
returns t c =
    let users = map user_of c.args.users.now in
    subst (λ (x : List ChannelPlan × List ChannelLabel). AreLabels users 0 x.0 x.1) (λ i. (sym c.in-Some.ensures.cases.0 i, sym c.in_ok-push.ensures.items i))
    (labels_and users 0 _ c.in-Some.front.now c.in-Some.plan.now c.add_labels.new.labels.items _ c.in_ok-add_labels.ensures (search (rules, arith))
    (record { name = search rules; workers = c.in_ok-add_entries.ensures }))
