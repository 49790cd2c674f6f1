use Rattle.std.proofs.Common.{rules, ◌≡◌, ◌∙◌, ℕ, List, ◌∷◌, Option, sym, ap}
use Rattle.agent_plan.specs.declared.plan.SinkPlan.{SinkPlan}
use Rattle.plan_objects.specs.Asks.{names_of, nearest, sink_asks}
use Rattle.plan_objects.proofs.Taking.{first_over}
use Rattle.plan_objects.proofs.claim.+claim_each.Goals as goal

pub returns-clause-first : goal.returns-clause-first
returns-clause-first g t c =
    let plan = c.in-Some.plan.now in
    let others = c.in-Some.others.now in
    let split : c.args.plans.now ≡ plan ∷ others = search rules in
    let held = c.args.handed.now.sinks.items in
    let rest = c.claim-object.new.handed.sinks.items in
    c.claim_each-first.ensures.first
    ∙ ap (λ (o : Option ℕ). nearest o (names_of rest) (sink_asks others)) c.next_line-first.ensures
    ∙ first_over c.args.first plan others held rest c.claim-object.result c.claim-object.ensures.taken
    ∙ ap (λ (l : List SinkPlan). nearest c.args.first (names_of held) (sink_asks l)) (sym split)
