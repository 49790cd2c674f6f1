use Rattle.std.proofs.Common.{◌∙◌, [], ℕ, refl, subst}
use Rattle.flume_host.specs.Causes.{Rose}
use Rattle.sink_worker.specs.Rounds.{MendsOnce, TurnsOnce, face, told}
use Rattle.sink_worker.proofs.Going.{goes_on}
use Rattle.sink_worker.proofs.worker.SinkWorker.work_until.Goals as goal

pub loop-init : goal.loop-init
loop-init g c = (tt, tt, record { turns = []; rounds = refl; channel = refl; batch = refl }, refl)

pub loop-preserved : goal.loop-preserved
loop-preserved g c =
    let Turns = TurnsOnce (face g.F.Face.own g.F.Face.saw g.F.Face.seen g.F.Face.kept) (told g.S.EventSink.delivers g.S.EventSink.faults) in
    let Mends = MendsOnce (face g.F.Face.own g.F.Face.saw g.F.Face.seen g.F.Face.kept) g.F.MendFace.on_disk in (
      tt,
      tt,
      goes_on Turns Mends g.C.Clock.moments c.args.self.now c.loop.self c.round-turn.new.self _ c.round-turn.result c.loop.invariant.2 c.round-turn.ensures.round c.round-turn.ensures.same refl refl c.rest.ensures.moments refl refl,
      c.rest.ensures.still c.if-rest.false ∙ c.asked.ensures.still c.if-asked.false ∙ c.loop.invariant.3,
    )

pub returns-then-asked-clause-ran : goal.returns-then-asked-clause-ran
returns-then-asked-clause-ran g c = c.loop.invariant.2

pub returns-then-asked-clause-stop : goal.returns-then-asked-clause-stop
returns-then-asked-clause-stop g c =
    subst (λ (n : ℕ). Rose n (g.H.Halt.yes c.asked.new.self)) c.loop.invariant.3 (c.asked.ensures.cause c.if-asked.true)

pub returns-then-rest-clause-ran : goal.returns-then-rest-clause-ran
returns-then-rest-clause-ran g c =
    let Turns = TurnsOnce (face g.F.Face.own g.F.Face.saw g.F.Face.seen g.F.Face.kept) (told g.S.EventSink.delivers g.S.EventSink.faults) in
    let Mends = MendsOnce (face g.F.Face.own g.F.Face.saw g.F.Face.seen g.F.Face.kept) g.F.MendFace.on_disk in
    goes_on Turns Mends g.C.Clock.moments c.args.self.now c.loop.self c.round-turn.new.self _ c.round-turn.result c.loop.invariant.2 c.round-turn.ensures.round c.round-turn.ensures.same refl refl c.rest.ensures.moments refl refl

pub returns-then-rest-clause-stop : goal.returns-then-rest-clause-stop
returns-then-rest-clause-stop g c =
    subst (λ (n : ℕ). Rose n (g.H.Halt.yes c.rest.new.halt)) (c.asked.ensures.still c.if-asked.false ∙ c.loop.invariant.3) (c.rest.ensures.stop c.if-rest.true)
