use Rattle.std.proofs.Common.{◌≡◌}
use Rattle.flume_host.specs.Listens.{IsSettled}
use Rattle.source_put.specs.Tries.{Puts}
use Rattle.source_worker.specs.Rounds.{MendsInto, MendsPort, Session}
use Rattle.source_worker.specs.Workers.{heard_of, stood}
use Rattle.source_worker.proofs.Works.{WorkedSo}
use Rattle.source_worker.proofs.service.Service.serve_until.Given as goal

abbrev pub invariant-loop : goal.invariant-loop
invariant-loop g l =
    let old = l.initial.self in
    let heard = heard_of g.N.Listens.told g.N.Listens.faults g.N.Listens.waits in
    (goal.iterator-loop g).can_next l.iterator' × (goal.iterator-loop g).is_finite l.iterator'
    × WorkedSo (Session l.rules (Puts g.F.Face.own g.F.Face.saw g.F.Face.seen g.F.Face.kept) old.intake.selector g.B.Interceptor.intercepts old.intake.host)
    (MendsInto (MendsPort g.F.Face.own g.F.Face.saw g.F.Face.seen g.F.Face.kept g.F.MendFace.on_disk)) old.built
    (stood old.intake (g.C.Clock.moments l.initial.clock) (heard l.initial.listener) old.due)
    (stood l.self.intake (g.C.Clock.moments l.clock) (heard l.listener) l.self.due)
    × (l.self.intake.selector ≡ old.intake.selector) × (l.self.intake.host ≡ old.intake.host) × (l.self.built ≡ old.built)
    × (g.H.Halt.yes l.halt ≡ g.H.Halt.yes l.initial.halt)
    × (IsSettled (g.N.Listens.told l.initial.listener) → IsSettled (g.N.Listens.told l.listener))
    × (g.N.Listens.endpoint l.listener ≡ g.N.Listens.endpoint l.initial.listener)
