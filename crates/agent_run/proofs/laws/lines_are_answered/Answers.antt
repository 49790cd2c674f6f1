use Rattle.agent_run.proofs.Talking.{ends_at_end, lines_are_answered}
use Rattle.agent_run.proofs.laws.lines_are_answered.Goals as goal

pub returns-clause-answered : goal.returns-clause-answered
returns-clause-answered g c =
    lines_are_answered _ g.K.Interceptor.intercepts g.C.Clock.moments g.I.Source.left g.I.Source.faults g.O.Sink.took g.O.Sink.handed g.O.Sink.faults

pub returns-clause-ends : goal.returns-clause-ends
returns-clause-ends g c = ends_at_end
