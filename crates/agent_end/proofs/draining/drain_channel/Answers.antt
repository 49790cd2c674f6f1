use Rattle.std.proofs.Common.{◌≡◌, ◌∙◌, ◌<◌, ℕ, true, false, refl, sym, subst, arith}
use Rattle.sink_worker.specs.Rounds.{TurnsOnce, face, told}
use Rattle.sink_worker.specs.Workers.{taking}
use Rattle.agent_end.specs.Drains.{LooksOnce, is_delivery}
use Rattle.agent_end.proofs.Delivering.{deliveries_push, run_on}
use Rattle.agent_end.proofs.draining.drain_channel.Goals as goal

pub returns-then-size-eq0-clause-drained : goal.returns-then-size-eq0-clause-drained
returns-then-size-eq0-clause-drained g c =
    let Looks = LooksOnce (face g.F.Face.own g.F.Face.saw g.F.Face.seen g.F.Face.kept) {S = g.row.S.Denot} in
    let none : c.size.result ≡ 0 = omega (arith, c.if-size-eq0.true) in
    let m = g.C.Clock.moments in
    let last : Looks (taking m c.loop.worker) 0 (taking m (record c.loop.worker { port = c.size.new.self })) =
    subst (λ (n : ℕ). Looks (taking m c.loop.worker) n (taking m (record c.loop.worker { port = c.size.new.self }))) none
    (record { later = c.size.ensures.seen; same = c.size.ensures.kept; sink = refl; moments = refl; calls = c.size.ensures.calls }) in
    record { counts = c.loop.invariant.3.0; between = taking m c.loop.worker; deliveries = c.loop.invariant.3.1; ends = last }

pub returns-then-not-is_delivery-clause-drained : goal.returns-then-not-is_delivery-clause-drained
returns-then-not-is_delivery-clause-drained g c =
    let Turns = TurnsOnce (face g.F.Face.own g.F.Face.saw g.F.Face.seen g.F.Face.kept) {S = g.row.S.Denot} (told g.S.EventSink.delivers g.S.EventSink.faults) in
    let Looks = LooksOnce (face g.F.Face.own g.F.Face.saw g.F.Face.seen g.F.Face.kept) {S = g.row.S.Denot} in
    let m = g.C.Clock.moments in
    let turn = c.run_once-turn.result in
    let old = taking m c.loop.worker in
    let new = taking m c.run_once-turn.new.self in
    let some : 0 < c.size.result = omega (arith, c.if-size-eq0.false) in
    let no : is_delivery turn ≡ false = sym c.is_delivery.ensures ∙ c.if-not-is_delivery.true in
    let run = run_on Turns Looks c.loop.worker.batch c.args.worker.now.batch old _ new c.size.result turn c.loop.invariant.2.1 some c.run_once-turn.ensures.turns
    (record { later = c.size.ensures.seen; same = c.size.ensures.kept; sink = refl; moments = refl; calls = c.size.ensures.calls }) in
    record { counts = c.loop.invariant.3.0; between = old; deliveries = c.loop.invariant.3.1; ends = (no, run) }

pub loop-preserved : goal.loop-preserved
loop-preserved g c =
    let Turns = TurnsOnce (face g.F.Face.own g.F.Face.saw g.F.Face.seen g.F.Face.kept) {S = g.row.S.Denot} (told g.S.EventSink.delivers g.S.EventSink.faults) in
    let Looks = LooksOnce (face g.F.Face.own g.F.Face.saw g.F.Face.seen g.F.Face.kept) {S = g.row.S.Denot} in
    let m = g.C.Clock.moments in
    let turn = c.run_once-turn.result in
    let old = taking m c.loop.worker in
    let new = taking m c.run_once-turn.new.self in
    let some : 0 < c.size.result = omega (arith, c.if-size-eq0.false) in
    let is : is_delivery turn ≡ true = sym c.is_delivery.ensures ∙ c.if-not-is_delivery.false in
    let run = run_on Turns Looks c.loop.worker.batch c.args.worker.now.batch old _ new c.size.result turn c.loop.invariant.2.1 some c.run_once-turn.ensures.turns
    (record { later = c.size.ensures.seen; same = c.size.ensures.kept; sink = refl; moments = refl; calls = c.size.ensures.calls }) in
    let same = c.run_once-turn.ensures.same in
    (tt, tt, (same.0 ∙ c.loop.invariant.2.0, same.1 ∙ c.loop.invariant.2.1), deliveries_push (Turns c.args.worker.now.batch) Looks c.loop.invariant.3.0 turn (taking m c.args.worker.now) old new is c.loop.invariant.3.1 run)
