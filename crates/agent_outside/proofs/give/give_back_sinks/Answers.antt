use Rattle.std.proofs.Common.{◌≡◌, ◌∙◌, ◌<◌, ℕ, suc, List, [], ◌∷◌, ◌++◌, length, length-append, get_or, sym, ap, subst, arith, rules}
use Rattle.agent_plan.specs.declared.plan.SinkPlan.{SinkPlan}
use Rattle.agent_outside.specs.Backs.{RollBack, RollsBack}
use Rattle.agent_outside.specs.Dials.{AreDialed, DialersBack, IsDialed, dials_back}
use Rattle.agent_outside.specs.Ends.{AreOut, ends_of}
use Rattle.agent_outside.specs.Sinks.{AreOpened, IsOpened, back_of, backs_of}
use Rattle.agent_outside.proofs.Backing.{back_marks, back_none, back_then}
use Rattle.agent_outside.proofs.Dialing.{came_last, dialed_last, dials_none, out_of_last}
use Rattle.agent_outside.proofs.Ordering.{backs_more, opened_few, opened_last, opened_later}
use Rattle.agent_outside.proofs.give.give_back_sinks.Invariants.{dial_of}
use Rattle.agent_outside.proofs.give.give_back_sinks.Goals as goal

pub loop-sink-init : goal.loop-sink-init
loop-sink-init g c = record {
  are = c.requires.opened;
  dialed = c.requires.dialed;
  out = c.requires.out;
  few = opened_few (g.H.Host.folders c.args.host.now) c.args.plans.now (length c.args.sinks.items) c.requires.opened;
  rest = λ end back. back;
  dials = λ end back. back;
}

pub give_back_sink-requires-clause-opened : goal.give_back_sink-requires-clause-opened
give_back_sink-requires-clause-opened g c κs within =
    let at : c.len.result ≡ length c.pop.new.self.items = search rules in
    let plans = c.args.plans.now in
    let folders = g.H.Host.folders c.loop-sink.host in
    let plan = c.index-plans-len.result in
    let more : length c.loop-sink.left.items ≡ suc (length c.pop.new.self.items) = let e = ap length c.in-Some.ensures.items ∙ length-append c.pop.new.self.items (c.in-Some.sink ∷ []) in omega (arith, e) in
    let last = opened_last folders plans (length c.pop.new.self.items) plan
    (subst (λ (n : ℕ). AreOpened folders plans n) more c.loop-sink.invariant.are) in
    subst (λ (p : SinkPlan). IsOpened folders p.kind) (ap (λ (n : ℕ). get_or plans n plan) (sym at) ∙ sym c.index-plans-len.is) last.2

pub give_back_sink-requires-clause-dialed : goal.give_back_sink-requires-clause-dialed
give_back_sink-requires-clause-dialed g c κs within =
    let at : c.len.result ≡ length c.pop.new.self.items = search rules in
    let plans = c.args.plans.now in
    let plan = c.index-plans-len.result in
    let left = c.pop.new.self.items in
    let more : length c.loop-sink.left.items ≡ suc (length left) = let e = ap length c.in-Some.ensures.items ∙ length-append left (c.in-Some.sink ∷ []) in omega (arith, e) in
    let below : length left < length plans = let few = c.loop-sink.invariant.few in omega (arith, few, more) in
    let last = dialed_last (dial_of g) plans left c.in-Some.sink plan below (subst (λ l. AreDialed (dial_of g) plans l) c.in-Some.ensures.items c.loop-sink.invariant.dialed) in
    subst (λ (p : SinkPlan). IsDialed (dial_of g) p.kind c.in-Some.sink) (ap (λ (n : ℕ). get_or plans n plan) (sym at) ∙ sym c.index-plans-len.is) last.1

pub give_back_sink-requires-clause-out : goal.give_back_sink-requires-clause-out
give_back_sink-requires-clause-out g c κs within =
    let at : c.len.result ≡ length c.pop.new.self.items = search rules in
    let plans = c.args.plans.now in
    let plan = c.index-plans-len.result in
    let left = c.pop.new.self.items in
    let all = (g.H.Host.state c.loop-sink.host).dialers in
    let more : length c.loop-sink.left.items ≡ suc (length left) = let e = ap length c.in-Some.ensures.items ∙ length-append left (c.in-Some.sink ∷ []) in omega (arith, e) in
    let below : length left < length plans = let few = c.loop-sink.invariant.few in omega (arith, few, more) in
    let is : get_or plans (length left) plan ≡ plan = ap (λ (n : ℕ). get_or plans n plan) (sym at) ∙ sym c.index-plans-len.is in
    out_of_last (dial_of g) plans left c.in-Some.sink plan all below is (subst (λ l. AreOut (ends_of (dials_back (dial_of g) plans l)) all) c.in-Some.ensures.items c.loop-sink.invariant.out)

pub loop-sink-preserved : goal.loop-sink-preserved
loop-sink-preserved g c =
    let at : c.len.result ≡ length c.pop.new.self.items = search rules in
    let inv = c.loop-sink.invariant in
    let plans = c.args.plans.now in
    let left = c.pop.new.self.items in
    let sink = c.in-Some.sink in
    let plan = c.index-plans-len.result in
    let rolled = g.H.Roll.RollDir.rolled in
    let old = g.H.Host.folders c.loop-sink.host in
    let new = g.H.Host.folders c.give_back_sink.new.host in
    let more : length c.loop-sink.left.items ≡ suc (length left) = let e = ap length c.in-Some.ensures.items ∙ length-append left (sink ∷ []) in omega (arith, e) in
    let last = opened_last old plans (length left) plan (subst (λ (n : ℕ). AreOpened old plans n) more inv.are) in
    let is : get_or plans (length left) plan ≡ plan = ap (λ (n : ℕ). get_or plans n plan) (sym at) ∙ sym c.index-plans-len.is in
    let split = ap (backs_of rolled plans) c.in-Some.ensures.items ∙ backs_more rolled plans left sink plan last.1 ∙ ap (λ (p : SinkPlan). backs_of rolled plans left ++ back_of rolled p.kind sink) is in
    let dials = came_last (dial_of g) plans left sink plan (g.H.Host.state c.loop-sink.host) (g.H.Host.state c.give_back_sink.new.host) last.1 is
    (subst (λ l. AreOut (ends_of (dials_back (dial_of g) plans l)) (g.H.Host.state c.loop-sink.host).dialers) c.in-Some.ensures.items inv.out) c.give_back_sink.ensures.dials in
    record {
      are = opened_later old new (back_marks (back_of rolled plan.kind sink) old new c.give_back_sink.ensures.folders) plans (length left) last.0;
      dialed = (dialed_last (dial_of g) plans left sink plan last.1 (subst (λ l. AreDialed (dial_of g) plans l) c.in-Some.ensures.items inv.dialed)).0;
      out = dials.0;
      few = let below = last.1 in omega arith;
      rest = λ end back. inv.rest end (subst (λ (l : List RollBack). RollsBack l old end) (sym split) (back_then (back_of rolled plan.kind sink) (backs_of rolled plans left) old new end c.give_back_sink.ensures.folders back));
      dials = λ end back. inv.dials end (subst (λ l. DialersBack (dials_back (dial_of g) plans l) (g.H.Host.state c.loop-sink.host) end) (sym c.in-Some.ensures.items) (dials.1 end back));
    }

pub returns-clause-folders : goal.returns-clause-folders
returns-clause-folders g c =
    let none : c.loop-sink.left.items ≡ [] = search rules in
    let folders = g.H.Host.folders c.loop-sink.host in
    c.loop-sink.invariant.rest folders
    (subst (λ l. RollsBack (backs_of g.H.Roll.RollDir.rolled c.args.plans.now l) folders folders) (sym none) (back_none folders))

pub returns-clause-dials : goal.returns-clause-dials
returns-clause-dials g c =
    let none : c.loop-sink.left.items ≡ [] = search rules in
    let state = g.H.Host.state c.loop-sink.host in
    c.loop-sink.invariant.dials state
    (subst (λ l. DialersBack (dials_back (dial_of g) c.args.plans.now l) state state) (sym none) (dials_none state))
