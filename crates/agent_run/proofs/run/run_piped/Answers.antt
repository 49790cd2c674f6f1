use Rattle.agent_run.proofs.Piping.{not_piped}
use Rattle.agent_run.proofs.run.run_piped.Goals as goal

pub returns-in_default-clause-piped : goal.returns-in_default-clause-piped
returns-in_default-clause-piped g c = not_piped _ _ _ _ _ c.refuse.ensures.channels c.refuse.ensures.status c.refuse.ensures.state c.refuse.ensures.folders
