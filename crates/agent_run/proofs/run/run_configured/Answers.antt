use Rattle.std.proofs.Common.{sym}
use Rattle.agent_run.proofs.Answering.{agent_same}
use Rattle.agent_run.proofs.run.run_configured.Goals as goal

pub returns-clause-ran : goal.returns-clause-ran
returns-clause-ran g c =
    agent_same (λ i. record { state = sym c.say_end.ensures.state i; folders = sym c.say_end.ensures.folders i }) c.run_named-status.ensures.ran
