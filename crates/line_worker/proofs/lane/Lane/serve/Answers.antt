use Rattle.selectors.specs.declared.selector.Selector.{Selector}
use Rattle.source_put.specs.declared.chain.HostNames.{HostNames}
use Rattle.source_put.specs.Tries.{Puts}
use Rattle.netcat_source.specs.Into.{TakesLine}
use Rattle.line_session.specs.Sessions.{ends_of}
use Rattle.source_worker.specs.Rounds.{MendsInto, MendsPort}
use Rattle.line_worker.specs.Turns.{TakesTurn}
use Rattle.line_worker.specs.Workers.{fed, ends_session}
use Rattle.line_worker.specs.declared.lane.Lane.{Lane}
use Rattle.line_worker.proofs.Lanes.{served_view}
use Rattle.line_worker.proofs.lane.Lane.serve.Goals as goal

pub returns-clause-served : goal.returns-clause-served
returns-clause-served g c =
    let L = Lane g.row.F.Denot g.row.B.Denot g.row.C.Denot g.row.H.Denot in
    let Turns = λ (s : Selector) (h : HostNames). TakesTurn (TakesLine (Puts g.F.Face.own g.F.Face.saw g.F.Face.seen g.F.Face.kept) s g.B.Interceptor.intercepts h)
    (MendsInto (MendsPort g.F.Face.own g.F.Face.saw g.F.Face.seen g.F.Face.kept g.F.MendFace.on_disk)) in
    served_view (λ (l : L). fed l.intake (g.C.Clock.moments l.clock) l.due) (λ (l : L). l.intake.selector) (λ (l : L). l.intake.host) Turns
    c.args.rules.now.max c.args.rules.now.ack ends_session
    (ends_of (g.I.Source.left c.args.input.now) c.args.self.now (g.O.Sink.took c.args.output.now))
    (ends_of (g.I.Source.left c.serve_lines.new.source) c.serve_lines.new.store (g.O.Sink.took c.serve_lines.new.sink))
    c.serve_lines.result c.serve_lines.ensures.served
