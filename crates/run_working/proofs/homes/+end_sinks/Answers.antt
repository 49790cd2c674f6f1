use Rattle.std.proofs.Common.{rules, ◌≡◌, ◌∙◌, ◌+◌, List, [], ◌∷◌, length, refl, sym, ap, subst, arith}
use Rattle.std.proofs.lemmas.List.{length-append}
use Rattle.shared_channel.specs.Passes.{Known}
use Rattle.sink_worker.specs.declared.worker.SinkWorker.{SinkWorker}
use Rattle.run_settling.specs.declared.at_home.AtHome.{AtHome}
use Rattle.run_tracks.specs.Homes.{TookAt}
use Rattle.run_tracks.specs.Places.{Zips}
use Rattle.run_tracks.proofs.Homing.{each_took_then, zips_length, zips_push}
use Rattle.run_working.specs.Ends.{IsSinkEnded}
use Rattle.run_working.proofs.Ending.{sink_ended_later}
use Rattle.run_working.proofs.Zipping.{zips_map}
use Rattle.run_working.proofs.homes.+end_sinks.Goals as goal

pub push_reserved-requires : goal.push_reserved-requires
push_reserved-requires g t c =
    let W = SinkWorker g.row.F.Denot g.row.S.Denot g.row.C.Denot in
    let E = SinkWorker AtHome g.row.S.Denot g.row.C.Denot in
    let mid = c.end_sinks.new.homes in
    let R = λ (w : W) (e : E). IsSinkEnded g.F.Carries.pass mid w e in
    let many : length c.pop.new.self.items ≡ length c.end_sinks.new.ended.items = zips_length R c.pop.new.self.items c.end_sinks.new.ended.items c.end_sinks.ensures.ended in
    let e : length c.args.workers.items ≡ length c.pop.new.self.items + 1 = ap length c.in-Some.ensures.items ∙ length-append c.pop.new.self.items (c.in-Some.worker ∷ []) in
    let room = c.requires.room in
    let kept = c.end_sinks.ensures.room in
    first_of (omega arith, search (rules, arith))

pub returns-clause-kept : goal.returns-clause-kept
returns-clause-kept g t c = each_took_then c.args.homes.now c.end_sinks.new.homes c.bring_home.new.homes c.end_sinks.ensures.kept c.bring_home.ensures.kept

pub returns-clause-ended : goal.returns-clause-ended
returns-clause-ended g t c =
    let W = SinkWorker g.row.F.Denot g.row.S.Denot g.row.C.Denot in
    let E = SinkWorker AtHome g.row.S.Denot g.row.C.Denot in
    let mid = c.end_sinks.new.homes in
    let new = c.bring_home.new.homes in
    let R = λ (homes : List Known) (w : W) (e : E). IsSinkEnded g.F.Carries.pass homes w e in
    let front = zips_map (R mid) (R new) (sink_ended_later g.F.Carries.pass mid new c.bring_home.ensures.kept) c.pop.new.self.items c.end_sinks.new.ended.items c.end_sinks.ensures.ended in
    subst (λ (x : List W × List E). Zips (R new) x.0 x.1) (λ i. (sym c.in-Some.ensures.items i, sym c.push_reserved.ensures.items i))
    (zips_push (R new) c.pop.new.self.items c.end_sinks.new.ended.items c.in-Some.worker _ front (record {
      took = subst (λ (p : Known). TookAt new c.in-Some.worker.channel p) c.into_pass-pass.ensures c.bring_home.ensures.took;
      number = c.number-number.ensures ∙ ap (λ (p : Known). p.number) c.into_pass-pass.ensures;
      channel = refl;
      sink = refl;
      batch = refl;
      clock = refl;
    }))
