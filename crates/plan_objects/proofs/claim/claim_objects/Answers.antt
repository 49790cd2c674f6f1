use Rattle.std.proofs.Common.{rules, ◌≡◌, List, None, sym, subst}
use Rattle.std.specs.Prelude.{reverse}
use Rattle.agent_plan.specs.declared.plan.SourcePlan.{SourcePlan}
use Rattle.plan_objects.specs.Named.{Named}
use Rattle.plan_objects.specs.Asks.{AreTaken, Joined, lacking, names_of, nearest, sink_asks, step_asks, unmet}
use Rattle.plan_objects.proofs.Claiming.{claimed, claimed_many}
use Rattle.plan_objects.proofs.Taking.{have_objects, none_first}
use Rattle.plan_objects.proofs.claim.claim_objects.Goals as goal

pub returns-in-None-clause-steps : goal.returns-in-None-clause-steps
returns-in-None-clause-steps g c =
    let K = g.row.K.Denot in
    let plan = c.args.plan.now in
    let sources = plan.sources.items in
    let old = c.args.handed.now.steps.items in
    let new = c.claim_each.new.handed.steps.items in
    let objects = c.claim_sources-first.new.objects.items in
    let met : lacking c.args.handed.now plan ≡ None = search rules in
    let none = none_first (nearest None (names_of old) (step_asks sources)) (unmet (names_of c.args.handed.now.sinks.items) (sink_asks plan.sinks.items)) met in
    let all = none_first None (unmet (names_of old) (step_asks sources)) none.0 in
    let joined = subst (λ (x : List SourcePlan × List (Named K) × List K). Joined (step_asks x.0) old x.1 x.2 objects)
    (λ i. (c.as_slice.ensures.value i, sym c.claim_each.ensures.steps i, c.in-Ok.ensures.items i)) c.claim_sources-first.ensures.joined in
    claimed sources old new objects joined all.1

pub returns-in-None-clause-many : goal.returns-in-None-clause-many
returns-in-None-clause-many g c =
    let K = g.row.K.Denot in
    let plan = c.args.plan.now in
    let sources = plan.sources.items in
    let old = c.args.handed.now.steps.items in
    let new = c.claim_each.new.handed.steps.items in
    let objects = c.claim_sources-first.new.objects.items in
    let met : lacking c.args.handed.now plan ≡ None = search rules in
    let none = none_first (nearest None (names_of old) (step_asks sources)) (unmet (names_of c.args.handed.now.sinks.items) (sink_asks plan.sinks.items)) met in
    let all = none_first None (unmet (names_of old) (step_asks sources)) none.0 in
    let joined = subst (λ (x : List SourcePlan × List (Named K) × List K). Joined (step_asks x.0) old x.1 x.2 objects)
    (λ i. (c.as_slice.ensures.value i, sym c.claim_each.ensures.steps i, c.in-Ok.ensures.items i)) c.claim_sources-first.ensures.joined in
    claimed_many sources old new objects (claimed sources old new objects joined all.1)

pub returns-in-None-clause-have : goal.returns-in-None-clause-have
returns-in-None-clause-have g c =
    let plan = c.args.plan.now in
    let held = c.args.handed.now.sinks.items in
    let taken = reverse c.claim_each.new.objects.items in
    let new = c.claim_each.new.handed.sinks.items in
    let met : lacking c.args.handed.now plan ≡ None = search rules in
    let none = none_first (nearest None (names_of c.args.handed.now.steps.items) (step_asks plan.sources.items)) (unmet (names_of held) (sink_asks plan.sinks.items)) met in
    let are : AreTaken plan.sinks.items held taken new = search rules in
    have_objects plan.sinks.items held taken new are none.1
