use Rattle.std.proofs.Common.{◌≡◌}
use Rattle.keep_worker.specs.Rounds.{face}
use Rattle.keep_worker.specs.Workers.{CanKeep, KeepRan}
use Rattle.keep_worker.proofs.worker.KeepWorker.work_until.Given as goal

abbrev pub invariant-loop : goal.invariant-loop
invariant-loop g l =
    (goal.iterator-loop g).can_next l.iterator' × (goal.iterator-loop g).is_finite l.iterator'
    × KeepRan (face g.F.Face.own g.F.Face.saw g.F.Face.seen g.F.Face.kept g.F.MendFace.on_disk g.F.KeepFace.saw_laid g.F.KeepFace.saw_pruned) l.initial.self l.self
    × (g.H.Halt.yes l.halt ≡ g.H.Halt.yes l.initial.halt)
    × CanKeep g.F.MendFace.on_disk g.F.Face.kept l.self
