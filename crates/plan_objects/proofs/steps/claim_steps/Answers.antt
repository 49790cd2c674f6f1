use Rattle.std.proofs.Common.{◌≡◌, ◌∙◌, List, flat_map, take, sym, subst}
use Rattle.plan_objects.specs.Asks.{Ask, Joined, asks_of_step, names_of, nearest}
use Rattle.plan_objects.proofs.Claiming.{asks_next, joined_both, nearest_both}
use Rattle.plan_objects.proofs.steps.claim_steps.Goals as goal

pub loop-step-preserved : goal.loop-step-preserved
loop-step-preserved g c =
    let steps = c.args.steps.now in
    let i = c.loop-step.step-index in
    let step = c.step-item.result in
    let inv = c.loop-step.invariant in
    let one = c.claim_step-first.ensures in
    let front = flat_map asks_of_step (take i steps) in
    let back = asks_of_step step in
    let old = c.args.handed.now.steps.items in
    let between = c.loop-step.handed.steps.items in
    let new = c.claim_step-first.new.handed.steps.items in
    let before = c.args.objects.now.items in
    let after = c.claim_step-first.new.objects.items in
    let last = c.claim_step-first.result in
    let all = asks_next asks_of_step steps i step c.loop-step-test.true c.step-item.is in
    record {
      joined = subst (λ (l : List Ask). Joined l old new before after) (sym all) (joined_both front back old between new before c.loop-step.objects.items after inv.joined one.joined);
      first = subst (λ (l : List Ask). last ≡ nearest c.args.first (names_of old) l) (sym all) (nearest_both front back old between c.args.first c.loop-step.first last inv.joined inv.first one.first);
      sinks = one.sinks ∙ inv.sinks;
      room = one.room;
    }
