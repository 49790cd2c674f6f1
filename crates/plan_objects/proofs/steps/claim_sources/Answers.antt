use Rattle.std.proofs.Common.{◌≡◌, ◌∙◌, List, None, flat_map, take, sym, ap, subst}
use Rattle.agent_plan.specs.declared.plan.StepPlan.{StepPlan}
use Rattle.plan_objects.specs.Asks.{Ask, Joined, asks_of_source, asks_of_step, names_of, nearest, step_asks}
use Rattle.plan_objects.proofs.Claiming.{asks_next, joined_both, nearest_both}
use Rattle.plan_objects.proofs.steps.claim_sources.Goals as goal

pub loop-source-preserved : goal.loop-source-preserved
loop-source-preserved g c =
    let sources = c.args.sources.now in
    let i = c.loop-source.source-index in
    let source = c.source-item.result in
    let inv = c.loop-source.invariant in
    let one = c.claim_steps-first.ensures in
    let front = step_asks (take i sources) in
    let back = asks_of_source source in
    let old = c.args.handed.now.steps.items in
    let between = c.loop-source.handed.steps.items in
    let new = c.claim_steps-first.new.handed.steps.items in
    let before = c.args.objects.now.items in
    let inner = c.loop-source.objects.items in
    let after = c.claim_steps-first.new.objects.items in
    let last = c.claim_steps-first.result in
    let own = c.as_slice.ensures.value in
    let joined = subst (λ (l : List StepPlan). Joined (flat_map asks_of_step l) between new inner after) own one.joined in
    let first = one.first ∙ ap (λ (l : List StepPlan). nearest c.loop-source.first (names_of between) (flat_map asks_of_step l)) own in
    let all = asks_next asks_of_source sources i source c.loop-source-test.true c.source-item.is in
    record {
      joined = subst (λ (l : List Ask). Joined l old new before after) (sym all) (joined_both front back old between new before inner after inv.joined joined);
      first = subst (λ (l : List Ask). last ≡ nearest None (names_of old) l) (sym all) (nearest_both front back old between None c.loop-source.first last inv.joined inv.first first);
      sinks = one.sinks ∙ inv.sinks;
      room = one.room;
    }
