use Rattle.std.proofs.Common.{rules, ◌≡◌, ◌∙◌, ◌≤◌, ◌+◌, List, [], ◌∷◌, length, Some, refl, sym, ap, subst, arith}
use Rattle.std.proofs.lemmas.List.{length-append}
use Rattle.std.specs.Vec.{vec_capacity}
use Rattle.shared_channel.specs.Passes.{Known}
use Rattle.source_worker.specs.declared.worker.ListenWorker.{ListenWorker}
use Rattle.run_tracks.specs.Places.{Zips}
use Rattle.std.proofs.lemmas.List.Elements.{All-pop}
use Rattle.run_tracks.proofs.Homing.{each_took_self, each_took_then, zips_length, zips_push}
use Rattle.run_staff.specs.Ports.{AreListenPorts}
use Rattle.run_working.specs.Ends.{IsListenEnded}
use Rattle.run_working.proofs.Ending.{listen_ended_later}
use Rattle.run_working.proofs.Zipping.{zips_map}
use Rattle.run_working.proofs.homes.+end_listeners.Goals as goal

pub push_reserved-requires : goal.push_reserved-requires
push_reserved-requires g t c =
    let W = ListenWorker g.row.F.Denot g.row.N.Denot g.row.C.Denot g.row.K.Denot in
    let E = g.row.N.Denot in
    let mid = c.end_listeners.new.homes in
    let R = λ (w : W) (e : E). IsListenEnded g.F.Carries.pass mid w e in
    let many : length c.pop.new.self.items ≡ length c.end_listeners.new.listeners.items = zips_length R c.pop.new.self.items c.end_listeners.new.listeners.items c.end_listeners.ensures.ended in
    let e : length c.args.workers.items ≡ length c.pop.new.self.items + 1 = ap length c.in-Some.ensures.items ∙ length-append c.pop.new.self.items (c.in-Some.worker ∷ []) in
    let room = c.requires.room in
    let kept = c.end_listeners.ensures.room in
    first_of (omega arith, search (rules, arith))

pub returns-clause-kept : goal.returns-clause-kept
returns-clause-kept g t c = each_took_then c.args.homes.now c.end_listeners.new.homes c.end_ports.new.homes c.end_listeners.ensures.kept c.end_ports.ensures.kept

pub returns-clause-ended : goal.returns-clause-ended
returns-clause-ended g t c =
    let W = ListenWorker g.row.F.Denot g.row.N.Denot g.row.C.Denot g.row.K.Denot in
    let E = g.row.N.Denot in
    let mid = c.end_listeners.new.homes in
    let new = c.end_ports.new.homes in
    let R = λ (homes : List Known) (w : W) (e : E). IsListenEnded g.F.Carries.pass homes w e in
    let front = zips_map (R mid) (R new) (listen_ended_later g.F.Carries.pass mid new c.end_ports.ensures.kept) c.pop.new.self.items c.end_listeners.new.listeners.items c.end_listeners.ensures.ended in
    let one : R new c.in-Some.worker c.in-Some.worker.listener = record { took = c.end_ports.ensures.took; same = refl } in
    subst (λ (x : List W × List E). Zips (R new) x.0 x.1) (λ i. (sym c.in-Some.ensures.items i, sym c.push_reserved.ensures.items i))
    (zips_push (R new) c.pop.new.self.items c.end_listeners.new.listeners.items c.in-Some.worker c.in-Some.worker.listener front one)

pub returns-in_default-clause-kept : goal.returns-in_default-clause-kept
returns-in_default-clause-kept g t c = each_took_self c.args.homes.now

pub end_listeners-requires : goal.end_listeners-requires
end_listeners-requires g t c κs within =
    let P = λ (w : ListenWorker g.row.F.Denot g.row.N.Denot g.row.C.Denot g.row.K.Denot). AreListenPorts g.Z.Joins.table c.args.shares.now g.F.Carries.pass w in
    let all = All-pop P c.args.workers.items c.pop.new.self.items (Some c.in-Some.worker) c.in-Some.ensures.items c.requires.workers in
    let e : length c.args.workers.items ≡ length c.pop.new.self.items + 1 = ap length c.in-Some.ensures.items ∙ length-append c.pop.new.self.items (c.in-Some.worker ∷ []) in
    let room : length c.pop.new.self.items ≤ vec_capacity c.args.listeners.now = let r = c.requires.room in omega arith in
    let d = c.decreases in
    (omega arith, (within.0, (within.1.0, (within.1.1.0, (within.1.1.1.0, (within.1.1.1.1, (c.requires.homes, (all.0, (c.requires.none, room)))))))))

pub end_ports-requires-clause-ports : goal.end_ports-requires-clause-ports
end_ports-requires-clause-ports g t c =
    let P = λ (w : ListenWorker g.row.F.Denot g.row.N.Denot g.row.C.Denot g.row.K.Denot). AreListenPorts g.Z.Joins.table c.args.shares.now g.F.Carries.pass w in
    (All-pop P c.args.workers.items c.pop.new.self.items (Some c.in-Some.worker) c.in-Some.ensures.items c.requires.workers).1
