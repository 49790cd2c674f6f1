use Rattle.agent_run.proofs.Apart.{folders_apart}
use Rattle.agent_run.proofs.told.folders_are_apart.Goals as goal

pub returns : goal.returns
returns c = folders_apart
