use Rattle.std.proofs.Common.{◌∙◌, sym}
use Rattle.source_put.specs.Tries.{Puts}
use Rattle.source_worker.specs.Rounds.{MendsInto, MendsPort, Session}
use Rattle.source_worker.specs.Workers.{heard_of, stood}
use Rattle.source_worker.proofs.Works.{not_due}
use Rattle.source_worker.proofs.service.Service.round.Goals as goal

pub returns-else-is_due-clause-makes : goal.returns-else-is_due-clause-makes
returns-else-is_due-clause-makes g c =
    let old = c.args.self.now in
    let heard = heard_of g.N.Listens.told g.N.Listens.faults g.N.Listens.waits in
    not_due (Session c.args.rules.now (Puts g.F.Face.own g.F.Face.saw g.F.Face.seen g.F.Face.kept) old.intake.selector g.B.Interceptor.intercepts old.intake.host)
    (MendsInto (MendsPort g.F.Face.own g.F.Face.saw g.F.Face.seen g.F.Face.kept g.F.MendFace.on_disk))
    (stood old.intake (g.C.Clock.moments c.args.clock.now) (heard c.args.listener.now) old.due)
    (stood c.serve-found.new.self.intake (g.C.Clock.moments c.serve-found.new.clock) (heard c.serve-found.new.listener) c.serve-found.new.self.due)
    c.serve-found.result c.serve-found.ensures.serves (sym c.is_due.ensures ∙ c.if-is_due.false)
