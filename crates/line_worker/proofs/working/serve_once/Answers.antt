use Rattle.std.proofs.Common.{refl, sym}
use Rattle.selectors.specs.declared.selector.Selector.{Selector}
use Rattle.source_put.specs.declared.chain.HostNames.{HostNames}
use Rattle.source_put.specs.Tries.{Puts}
use Rattle.netcat_source.specs.Into.{TakesLine}
use Rattle.source_worker.specs.Rounds.{MendsInto, MendsPort}
use Rattle.line_worker.specs.Turns.{TakesTurn}
use Rattle.line_worker.specs.Workers.{talk_of}
use Rattle.line_worker.proofs.Ran.{ran_so}
use Rattle.line_worker.proofs.working.serve_once.Goals as goal

pub returns : goal.returns
returns g c =
    let Turns = λ (s : Selector) (h : HostNames). TakesTurn (TakesLine (Puts g.F.Face.own g.F.Face.saw g.F.Face.seen g.F.Face.kept) s g.B.Interceptor.intercepts h)
    (MendsInto (MendsPort g.F.Face.own g.F.Face.saw g.F.Face.seen g.F.Face.kept g.F.MendFace.on_disk)) in
    let begun = c.begin-intake in
    let lane = c.session-end.new.self in
    ran_so Turns g.C.Clock.moments (talk_of g.I.Source.left g.I.Source.faults g.O.Sink.took g.O.Sink.handed g.O.Sink.faults)
    c.args.worker.now begun.new.self begun.result.intake lane.intake begun.result.built lane.due c.session-end.result
    _ c.in-Some.clock lane.clock begun.ensures.means begun.ensures.ports begun.ensures.same begun.ensures.chain c.session-end.ensures.session c.close.ensures
    (sym c.in-Some.ensures.value) refl refl refl refl
