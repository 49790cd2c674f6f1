use Rattle.agent_run.proofs.LoadOff.{not_loaded}
use Rattle.agent_run.proofs.run.run_loaded.Goals as goal

pub returns-in_default-clause-loaded : goal.returns-in_default-clause-loaded
returns-in_default-clause-loaded g c = not_loaded _ _ _ _ _ _ c.refuse.ensures.channels c.refuse.ensures.status c.refuse.ensures.state c.refuse.ensures.folders
