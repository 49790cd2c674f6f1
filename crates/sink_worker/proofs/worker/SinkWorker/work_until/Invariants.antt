use Rattle.std.proofs.Common.{◌≡◌}
use Rattle.sink_worker.specs.Rounds.{MendsOnce, TurnsOnce, face, told}
use Rattle.sink_worker.specs.Workers.{SinkRan}
use Rattle.sink_worker.proofs.worker.SinkWorker.work_until.Given as goal

abbrev pub invariant-loop : goal.invariant-loop
invariant-loop g l =
    (goal.iterator-loop g).can_next l.iterator' × (goal.iterator-loop g).is_finite l.iterator'
    × SinkRan (TurnsOnce (face g.F.Face.own g.F.Face.saw g.F.Face.seen g.F.Face.kept) (told g.S.EventSink.delivers g.S.EventSink.faults) l.initial.self.batch) (MendsOnce (face g.F.Face.own g.F.Face.saw g.F.Face.seen g.F.Face.kept) g.F.MendFace.on_disk) g.C.Clock.moments l.initial.self l.self
    × (g.H.Halt.yes l.halt ≡ g.H.Halt.yes l.initial.halt)
