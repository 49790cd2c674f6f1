use Rattle.std.proofs.Common.{◌≡◌, ◌∙◌, true, false, refl, sym}
use Rattle.sink_worker.specs.Answers.{needs_mend}
use Rattle.sink_worker.specs.Rounds.{MendsOnce, TurnsOnce, face, told}
use Rattle.sink_worker.specs.Workers.{taking}
use Rattle.sink_worker.proofs.Rounding.{with_mend, without_mend}
use Rattle.sink_worker.proofs.worker.SinkWorker.round.Goals as goal

pub returns-then-needs_mend-clause-round : goal.returns-then-needs_mend-clause-round
returns-then-needs_mend-clause-round g c =
    let Turns = TurnsOnce (face g.F.Face.own g.F.Face.saw g.F.Face.seen g.F.Face.kept) (told g.S.EventSink.delivers g.S.EventSink.faults) c.args.self.now.batch in
    let Mends = MendsOnce (face g.F.Face.own g.F.Face.saw g.F.Face.seen g.F.Face.kept) g.F.MendFace.on_disk in
    let turn = c.run_once-turn.result in
    let mended = c.mend-mended.ensures in
    let is : needs_mend turn ≡ true = sym c.needs_mend.ensures ∙ c.if-needs_mend.true in
    with_mend Turns Mends (taking g.C.Clock.moments c.args.self.now) (taking g.C.Clock.moments c.run_once-turn.new.self) _ turn c.mend-mended.result is c.run_once-turn.ensures.turns (record { later = mended.seen; same = mended.kept; sink = refl; moments = refl; calls = mended.calls })

pub returns-else-needs_mend-clause-round : goal.returns-else-needs_mend-clause-round
returns-else-needs_mend-clause-round g c =
    let Turns = TurnsOnce (face g.F.Face.own g.F.Face.saw g.F.Face.seen g.F.Face.kept) (told g.S.EventSink.delivers g.S.EventSink.faults) c.args.self.now.batch in
    let Mends = MendsOnce (face g.F.Face.own g.F.Face.saw g.F.Face.seen g.F.Face.kept) g.F.MendFace.on_disk in
    let turn = c.run_once-turn.result in
    let is : needs_mend turn ≡ false = sym c.needs_mend.ensures ∙ c.if-needs_mend.false in
    without_mend Turns Mends (taking g.C.Clock.moments c.args.self.now) (taking g.C.Clock.moments c.run_once-turn.new.self) turn is c.run_once-turn.ensures.turns
