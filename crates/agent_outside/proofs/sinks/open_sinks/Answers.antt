use Rattle.std.proofs.Common.{◌≡◌, ◌<◌, ◌∙◌, ℕ, [], ◌∷◌, length, get_or, refl, sym, ap, subst, arith, length-append}
use Rattle.std.specs.Prelude.{reverse}
use Rattle.agent_plan.specs.declared.plan.SinkPlan.{SinkPlan}
use Rattle.agent_outside.specs.Backs.{RollsBack}
use Rattle.agent_outside.specs.Dials.{AreDialed, DialersBack, DialersOut, DialsOpened, dial_of as dial_by, dials_back}
use Rattle.agent_outside.specs.Ends.{AreOut, ends_of}
use Rattle.plan_objects.specs.Asks.{HasObject}
use Rattle.agent_outside.specs.Sinks.{AreOpened, SinkAdded, SinkUnopened, SinksOpened, backs_of, first_of}
use Rattle.agent_outside.proofs.Backing.{reopened_marks}
use Rattle.agent_outside.proofs.Boxing.{Boxing, boxing_more, next_object}
use Rattle.agent_outside.proofs.Dialing.{are_dialed, dialed_more, dials_may_come_back, none_dialed}
use Rattle.agent_outside.proofs.Ordering.{are_later, are_opened}
use Rattle.agent_outside.proofs.Opening.{none_opened, opened_more, refused_at}
use Rattle.agent_outside.proofs.sinks.open_sinks.Invariants.{dial_of}
use Rattle.agent_outside.proofs.sinks.open_sinks.Goals as goal

pub loop-plan-init : goal.loop-plan-init
loop-plan-init g c =
    let plans = c.args.plans.now in
    let folders = g.H.Host.folders c.args.host.now in
    let state = g.H.Host.state c.args.host.now in
    let none = sym c.new-sinks.ensures.items in
    record {
      many = ap length c.new-sinks.ensures.items;
      opened = subst (λ l. SinksOpened g.H.Roll.RollDir.rolled g.H.Roll.RollDir.faults plans folders folders l) none (none_opened g.H.Roll.RollDir.rolled g.H.Roll.RollDir.faults (dial_of g) plans folders);
      dialed = subst (λ l. DialsOpened (dial_of g) plans state state l) none (none_dialed (dial_of g) plans state);
      boxing = subst (λ l. Boxing plans (reverse c.args.objects.items) (reverse c.args.objects.items) l) none (record { rest = refl; boxed = tt });
    }

pub add_sink-requires-clause-have : goal.add_sink-requires-clause-have
add_sink-requires-clause-have g c κs within =
    let plans = c.args.plans.now in
    let inv = c.loop-plan.invariant in
    let sinks = c.loop-plan.sinks.items in
    let plan = c.plan-item.result in
    let left = reverse c.loop-plan.objects.items in
    let below : length sinks < length plans = let many = inv.many in let test = c.loop-plan-test.true in omega (arith, many, test) in
    let is : plan ≡ get_or plans (length sinks) plan = c.plan-item.is ∙ ap (λ (n : ℕ). get_or plans n plan) (sym inv.many) in
    subst (λ (p : SinkPlan). HasObject p.kind (first_of left)) (sym is) (next_object plans (reverse c.args.objects.items) c.requires sinks below left inv.boxing plan)

pub give_back_sinks-requires-clause-opened : goal.give_back_sinks-requires-clause-opened
give_back_sinks-requires-clause-opened g c κs within =
    let plans = c.args.plans.now in
    let old = g.H.Host.folders c.loop-plan.host in
    let new = g.H.Host.folders c.add_sink.new.host in
    let un = c.in-Err.ensures.refused in
    subst (λ l. AreOpened new plans (length l)) (sym c.in-Err.ensures.same)
    (are_opened new plans c.loop-plan.sinks.items
    (are_later old new (reopened_marks _ old new un.folders) plans c.loop-plan.sinks.items c.loop-plan.invariant.opened.are))

pub give_back_sinks-requires-clause-dialed : goal.give_back_sinks-requires-clause-dialed
give_back_sinks-requires-clause-dialed g c κs within =
    let plans = c.args.plans.now in
    subst (λ l. AreDialed (dial_of g) plans l) (sym c.in-Err.ensures.same)
    (are_dialed (dial_of g) (g.H.Host.state c.args.host.now).dialers plans c.loop-plan.sinks.items c.loop-plan.invariant.dialed.made)

pub give_back_sinks-requires-clause-out : goal.give_back_sinks-requires-clause-out
give_back_sinks-requires-clause-out g c κs within =
    let plans = c.args.plans.now in
    let inv = c.loop-plan.invariant in
    let new = g.H.Host.state c.add_sink.new.host in
    subst (λ l. AreOut (ends_of (dials_back (dial_of g) plans l)) new.dialers) (sym c.in-Err.ensures.same)
    (dials_may_come_back (dial_of g) plans (g.H.Host.folders c.loop-plan.host) _ _ (g.H.Host.state c.args.host.now) (g.H.Host.state c.loop-plan.host) new c.loop-plan.sinks.items inv.opened.are inv.dialed c.in-Err.ensures.refused.dials)

pub returns-in-Err-clause-refused : goal.returns-in-Err-clause-refused
returns-in-Err-clause-refused g c =
    let plans = c.args.plans.now in
    let inv = c.loop-plan.invariant in
    let sinks = c.loop-plan.sinks.items in
    let plan = c.plan-item.result in
    let rolled = g.H.Roll.RollDir.rolled in
    let start = g.H.Host.folders c.args.host.now in
    let old = g.H.Host.folders c.loop-plan.host in
    let new = g.H.Host.folders c.add_sink.new.host in
    let end = g.H.Host.folders c.give_back_sinks.new.host in
    let s = g.H.Host.state c.args.host.now in
    let t = g.H.Host.state c.loop-plan.host in
    let u = g.H.Host.state c.add_sink.new.host in
    let v = g.H.Host.state c.give_back_sinks.new.host in
    let below : length sinks < length plans = let many = inv.many in let test = c.loop-plan-test.true in omega arith in
    let is : plan ≡ get_or plans (length sinks) plan = c.plan-item.is ∙ ap (λ (n : ℕ). get_or plans n plan) (sym inv.many) in
    refused_at rolled g.H.Roll.RollDir.faults (dial_of g) plans c.in-Err.refused start old new end s t u v sinks plan below inv.opened inv.dialed
    (subst (λ (p : SinkPlan). SinkUnopened p c.in-Err.refused old new t u) is c.in-Err.ensures.refused)
    (subst (λ l. RollsBack (backs_of rolled plans l) new end) c.in-Err.ensures.same c.give_back_sinks.ensures.folders)
    (subst (λ l. DialersBack (dials_back (dial_of g) plans l) u v) c.in-Err.ensures.same c.give_back_sinks.ensures.dials)

pub loop-plan-preserved : goal.loop-plan-preserved
loop-plan-preserved g c =
    let plans = c.args.plans.now in
    let inv = c.loop-plan.invariant in
    let sinks = c.loop-plan.sinks.items in
    let plan = c.plan-item.result in
    let rolled = g.H.Roll.RollDir.rolled in
    let faults = g.H.Roll.RollDir.faults in
    let start = g.H.Host.folders c.args.host.now in
    let old = g.H.Host.folders c.loop-plan.host in
    let new = g.H.Host.folders c.add_sink.new.host in
    let s = g.H.Host.state c.args.host.now in
    let t = g.H.Host.state c.loop-plan.host in
    let u = g.H.Host.state c.add_sink.new.host in
    let after = c.add_sink.new.sinks.items in
    let below : length sinks < length plans = let many = inv.many in let test = c.loop-plan-test.true in omega arith in
    let is : plan ≡ get_or plans (length sinks) plan = c.plan-item.is ∙ ap (λ (n : ℕ). get_or plans n plan) (sym inv.many) in
    let object = first_of (reverse c.loop-plan.objects.items) in
    let added = subst (λ (p : SinkPlan). SinkAdded rolled faults (dial_of g) p object t.dialers old new sinks after) is c.in_default.ensures.added in
    let out = subst (λ (p : SinkPlan). DialersOut (dial_by p.kind) t u) is c.in_default.ensures.dials in
    record {
      many = let many = inv.many in let one = ap length added.is ∙ length-append sinks (added.sink ∷ []) in omega (arith, one);
      opened = opened_more rolled faults (dial_of g) plans object t.dialers start old new sinks after plan below inv.opened added;
      dialed = dialed_more (dial_of g) plans s t u sinks after added.sink plan below inv.dialed added.dialed added.is out;
      boxing = boxing_more plans (reverse c.args.objects.items) c.requires sinks below (reverse c.loop-plan.objects.items) inv.boxing plan (reverse c.add_sink.new.objects.items) after added.sink c.add_sink.ensures.rest
          added.is added.boxed;
    }
