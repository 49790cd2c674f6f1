use Rattle.std.proofs.Common.{◌≡◌, ℕ, List}
use Rattle.sink_worker.specs.Rounds.{TurnsOnce, face, told}
use Rattle.sink_worker.specs.Workers.{taking}
use Rattle.agent_end.specs.Drains.{Deliveries, LooksOnce}
use Rattle.agent_end.proofs.draining.drain_channel.Given as goal

abbrev pub invariant-loop : goal.invariant-loop
invariant-loop g l =
    (goal.iterator-loop g).can_next l.iterator' × (goal.iterator-loop g).is_finite l.iterator'
    × ((l.worker.channel ≡ l.initial.worker.channel) × (l.worker.batch ≡ l.initial.worker.batch))
    × ((counts : List ℕ) × Deliveries (TurnsOnce (face g.F.Face.own g.F.Face.saw g.F.Face.seen g.F.Face.kept) (told g.S.EventSink.delivers g.S.EventSink.faults) l.initial.worker.batch) (LooksOnce (face g.F.Face.own g.F.Face.saw g.F.Face.seen g.F.Face.kept)) counts (taking g.C.Clock.moments l.initial.worker) (taking g.C.Clock.moments l.worker))
