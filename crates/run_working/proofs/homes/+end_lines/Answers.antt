use Rattle.std.proofs.Common.{rules, ◌≡◌, ◌∙◌, ◌≤◌, ◌+◌, List, [], ◌∷◌, length, Some, refl, sym, ap, subst, arith}
use Rattle.std.proofs.lemmas.List.{length-append}
use Rattle.std.specs.Vec.{vec_capacity}
use Rattle.shared_channel.specs.Passes.{Known}
use Rattle.line_worker.specs.declared.worker.LineWorker.{LineWorker}
use Rattle.run_staff.specs.declared.workers.LineEnded.{LineEnded}
use Rattle.run_tracks.specs.Places.{Zips}
use Rattle.std.proofs.lemmas.List.Elements.{All-pop}
use Rattle.run_tracks.proofs.Homing.{each_took_self, each_took_then, zips_length, zips_push}
use Rattle.run_staff.specs.Ports.{AreLinePorts}
use Rattle.run_working.specs.Ends.{IsLineEnded}
use Rattle.run_working.proofs.Ending.{line_ended_later}
use Rattle.run_working.proofs.Zipping.{zips_map}
use Rattle.run_working.proofs.homes.+end_lines.Goals as goal

pub push_reserved-requires : goal.push_reserved-requires
push_reserved-requires g t c =
    let W = LineWorker g.row.F.Denot g.row.I.Denot g.row.O.Denot g.row.C.Denot g.row.K.Denot in
    let E = LineEnded g.row.I.Denot g.row.O.Denot in
    let mid = c.end_lines.new.homes in
    let R = λ (w : W) (e : E). IsLineEnded g.F.Carries.pass mid w e in
    let many : length c.pop.new.self.items ≡ length c.end_lines.new.ended.items = zips_length R c.pop.new.self.items c.end_lines.new.ended.items c.end_lines.ensures.ended in
    let e : length c.args.workers.items ≡ length c.pop.new.self.items + 1 = ap length c.in-Some.ensures.items ∙ length-append c.pop.new.self.items (c.in-Some.worker ∷ []) in
    let room = c.requires.room in
    let kept = c.end_lines.ensures.room in
    first_of (omega arith, search (rules, arith))

pub returns-clause-kept : goal.returns-clause-kept
returns-clause-kept g t c = each_took_then c.args.homes.now c.end_lines.new.homes c.end_ports.new.homes c.end_lines.ensures.kept c.end_ports.ensures.kept

pub returns-clause-ended : goal.returns-clause-ended
returns-clause-ended g t c =
    let W = LineWorker g.row.F.Denot g.row.I.Denot g.row.O.Denot g.row.C.Denot g.row.K.Denot in
    let E = LineEnded g.row.I.Denot g.row.O.Denot in
    let mid = c.end_lines.new.homes in
    let new = c.end_ports.new.homes in
    let R = λ (homes : List Known) (w : W) (e : E). IsLineEnded g.F.Carries.pass homes w e in
    let front = zips_map (R mid) (R new) (line_ended_later g.F.Carries.pass mid new c.end_ports.ensures.kept) c.pop.new.self.items c.end_lines.new.ended.items c.end_lines.ensures.ended in
    let one : R new c.in-Some.worker (record { input = c.in-Some.worker.input; output = c.in-Some.worker.output; end = c.in-Some.worker.end }) = record { took = c.end_ports.ensures.took; input = refl; output = refl; end = refl } in
    subst (λ (x : List W × List E). Zips (R new) x.0 x.1) (λ i. (sym c.in-Some.ensures.items i, sym c.push_reserved.ensures.items i))
    (zips_push (R new) c.pop.new.self.items c.end_lines.new.ended.items c.in-Some.worker (record { input = c.in-Some.worker.input; output = c.in-Some.worker.output; end = c.in-Some.worker.end }) front one)

pub returns-in_default-clause-kept : goal.returns-in_default-clause-kept
returns-in_default-clause-kept g t c = each_took_self c.args.homes.now

pub end_lines-requires : goal.end_lines-requires
end_lines-requires g t c κs within =
    let P = λ (w : LineWorker g.row.F.Denot g.row.I.Denot g.row.O.Denot g.row.C.Denot g.row.K.Denot). AreLinePorts g.Z.Joins.table c.args.shares.now g.F.Carries.pass w in
    let all = All-pop P c.args.workers.items c.pop.new.self.items (Some c.in-Some.worker) c.in-Some.ensures.items c.requires.workers in
    let e : length c.args.workers.items ≡ length c.pop.new.self.items + 1 = ap length c.in-Some.ensures.items ∙ length-append c.pop.new.self.items (c.in-Some.worker ∷ []) in
    let room : length c.pop.new.self.items ≤ vec_capacity c.args.ended.now = let r = c.requires.room in omega arith in
    let d = c.decreases in
    (omega arith, (within.0, (within.1.0, (within.1.1.0, (within.1.1.1.0, (within.1.1.1.1.0, (within.1.1.1.1.1, (c.requires.homes, (all.0, (c.requires.none, room))))))))))

pub end_ports-requires-clause-ports : goal.end_ports-requires-clause-ports
end_ports-requires-clause-ports g t c =
    let P = λ (w : LineWorker g.row.F.Denot g.row.I.Denot g.row.O.Denot g.row.C.Denot g.row.K.Denot). AreLinePorts g.Z.Joins.table c.args.shares.now g.F.Carries.pass w in
    (All-pop P c.args.workers.items c.pop.new.self.items (Some c.in-Some.worker) c.in-Some.ensures.items c.requires.workers).1
