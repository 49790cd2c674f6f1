use Rattle.sink_worker.specs.Rounds.{told}
use Rattle.run_working.proofs.Silence.{others_stay, sinks_whole}
use Rattle.agent_run.proofs.laws.sinks_are_whole.Goals as goal

pub returns-clause-whole : goal.returns-clause-whole
returns-clause-whole g c = sinks_whole (told g.S.EventSink.delivers g.S.EventSink.faults) g.C.Clock.moments g.row.A.Denot g.row.B.Denot

pub returns-clause-others : goal.returns-clause-others
returns-clause-others g c = others_stay (told g.S.EventSink.delivers g.S.EventSink.faults) g.C.Clock.moments g.row.A.Denot g.row.B.Denot
