use Rattle.sink_worker.specs.Rounds.{told}
use Rattle.run_working.proofs.Silence.{drains_silent}
use Rattle.run_working.proofs.Stopping.{counts_silent, keeps_silent, mends_silent}
use Rattle.agent_run.proofs.laws.silence_is_kept.Goals as goal

pub returns-clause-drains : goal.returns-clause-drains
returns-clause-drains g c = drains_silent (told g.S.EventSink.delivers g.S.EventSink.faults) g.C.Clock.moments

pub returns-clause-keeps : goal.returns-clause-keeps
returns-clause-keeps g c = keeps_silent g.row.A.Denot g.row.B.Denot g.A.Channel.stands g.A.Channel.tells g.A.Channel.moment g.A.Durable.is_laid g.A.Durable.is_pruned

pub returns-clause-mends : goal.returns-clause-mends
returns-clause-mends g c = mends_silent g.row.A.Denot g.row.B.Denot g.A.Channel.stands g.A.Channel.tells g.A.Channel.moment

pub returns-clause-counts : goal.returns-clause-counts
returns-clause-counts g c = counts_silent
