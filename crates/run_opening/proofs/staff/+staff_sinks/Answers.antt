use Rattle.std.proofs.Common.{rules, ◌≡◌, ◌∙◌, ◌≤◌, ◌+◌, List, [], ◌∷◌, length, map, Some, refl, sym, ap, subst, arith}
use Rattle.std.proofs.lemmas.List.{length-append}
use Rattle.std.proofs.lemmas.List.Elements.{All-pop}
use Rattle.shared_channel.specs.Passes.{Known}
use Rattle.sink_worker.specs.declared.worker.SinkWorker.{SinkWorker}
use Rattle.grouped_sinks.specs.declared.row.SinkRow.{SinkRow}
use Rattle.run_tracks.specs.Deals.{DealsEach, hands_of}
use Rattle.run_tracks.specs.Places.{Zips}
use Rattle.run_tracks.proofs.Handing.{first_some, first_there}
use Rattle.run_tracks.proofs.Homing.{zips_length, zips_push}
use Rattle.run_opening.specs.Staff.{IsSinkOf, sink_channels, sink_ports}
use Rattle.run_opening.proofs.Staffing.{deals_last, last_plan, sinks_left, suffice_front}
use Rattle.run_opening.proofs.staff.+staff_sinks.Goals as goal

pub staff_sinks-requires : goal.staff_sinks-requires
staff_sinks-requires g t c κs within =
    let e = c.in-Some.ensures.cases.0 in
    let enough = last_plan (hands_of c.args.hands.now) c.args.plans.now c.in-Some.front.now c.in-Some.plan.now e c.requires.enough in
    let all = All-pop (λ (p : SinkRow). 1 ≤ p.batch) c.args.plans.now c.in-Some.front.now (Some c.in-Some.plan.now) e c.requires.some in
    let many : length c.args.plans.now ≡ length c.in-Some.front.now + 1 = ap length e ∙ length-append c.in-Some.front.now (c.in-Some.plan.now ∷ []) in
    let sinks : length c.args.sinks.items ≡ length c.pop.new.self.items + 1 = ap length c.in-Some-pop.ensures.items ∙ length-append c.pop.new.self.items (c.in-Some-pop.sink ∷ []) in
    let clocks : length c.args.clocks.items ≡ length c.pop-2.new.self.items + 1 = ap length c.in-Some-pop-2.ensures.items ∙ length-append c.pop-2.new.self.items (c.in-Some-pop-2.clock ∷ []) in
    let r = c.requires.room in
    let s = c.requires.sinks in
    let k = c.requires.clocks in
    let d = c.decreases in
    (omega arith, (within.0, (within.1, (omega arith, (omega arith, (all.0, (suffice_front (hands_of c.args.hands.now) (map (λ (p : SinkRow). p.channel) c.in-Some.front.now) (c.in-Some.plan.now.channel ∷ []) enough, (c.requires.none, omega arith))))))))

pub draw-port-requires-clause-there : goal.draw-port-requires-clause-there
draw-port-requires-clause-there g t c =
    first_there c.staff_sinks.new.hands c.in-Some.plan.now.channel []
    (sinks_left (hands_of c.args.hands.now) (hands_of c.staff_sinks.new.hands) c.args.plans.now c.in-Some.front.now c.in-Some.plan.now c.staff_sinks.new.jobs.items c.in-Some.ensures.cases.0 c.requires.enough c.staff_sinks.ensures.of c.staff_sinks.ensures.dealt)

pub draw-port-requires-clause-some : goal.draw-port-requires-clause-some
draw-port-requires-clause-some g t c =
    first_some (hands_of c.staff_sinks.new.hands) c.in-Some.plan.now.channel []
    (sinks_left (hands_of c.args.hands.now) (hands_of c.staff_sinks.new.hands) c.args.plans.now c.in-Some.front.now c.in-Some.plan.now c.staff_sinks.new.jobs.items c.in-Some.ensures.cases.0 c.requires.enough c.staff_sinks.ensures.of c.staff_sinks.ensures.dealt)

pub invariant_of-push_reserved : goal.invariant_of-push_reserved
invariant_of-push_reserved g t c =
    record { some = (All-pop (λ (p : SinkRow). 1 ≤ p.batch) c.args.plans.now c.in-Some.front.now (Some c.in-Some.plan.now) c.in-Some.ensures.cases.0 c.requires.some).1 }

pub returns-clause-dealt : goal.returns-clause-dealt
returns-clause-dealt g t c =
    let J = SinkWorker Known g.row.S.Denot g.row.C.Denot in
    subst (λ (jobs : List J). DealsEach (sink_channels {S = g.row.S.Denot} {C = g.row.C.Denot}) (sink_ports {S = g.row.S.Denot} {C = g.row.C.Denot}) (hands_of c.args.hands.now) jobs (hands_of c.draw-port.new.hands))
    (sym c.push_reserved.ensures.items)
    (deals_last (sink_channels {S = g.row.S.Denot} {C = g.row.C.Denot}) (sink_ports {S = g.row.S.Denot} {C = g.row.C.Denot}) (hands_of c.args.hands.now) c.staff_sinks.new.jobs.items _ (hands_of c.staff_sinks.new.hands) (hands_of c.draw-port.new.hands) c.staff_sinks.ensures.dealt (hands_of c.draw-port.new.hands, c.draw-port.ensures, refl))

pub returns-clause-of : goal.returns-clause-of
returns-clause-of g t c =
    let J = SinkWorker Known g.row.S.Denot g.row.C.Denot in
    subst (λ (x : List SinkRow × List J). Zips (IsSinkOf {S = g.row.S.Denot} {C = g.row.C.Denot}) x.0 x.1) (λ i. (sym c.in-Some.ensures.cases.0 i, sym c.push_reserved.ensures.items i))
    (zips_push (IsSinkOf {S = g.row.S.Denot} {C = g.row.C.Denot}) c.in-Some.front.now c.staff_sinks.new.jobs.items c.in-Some.plan.now _ c.staff_sinks.ensures.of (record { channel = refl; batch = refl }))

pub push_reserved-requires : goal.push_reserved-requires
push_reserved-requires g t c =
    let many : length c.in-Some.front.now ≡ length c.staff_sinks.new.jobs.items = zips_length (IsSinkOf {S = g.row.S.Denot} {C = g.row.C.Denot}) c.in-Some.front.now c.staff_sinks.new.jobs.items c.staff_sinks.ensures.of in
    let e : length c.args.plans.now ≡ length c.in-Some.front.now + 1 = ap length c.in-Some.ensures.cases.0 ∙ length-append c.in-Some.front.now (c.in-Some.plan.now ∷ []) in
    let room = c.requires.room in
    let kept = c.staff_sinks.ensures.room in
    first_of (omega arith, search (rules, arith))
