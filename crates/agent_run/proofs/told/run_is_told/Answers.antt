use Rattle.agent_run.proofs.told.run_is_told.Goals as goal

pub returns-clause-in_full : goal.returns-clause-in_full
returns-clause-in_full g c = c.runs_are_told.ensures

pub returns-clause-lines : goal.returns-clause-lines
returns-clause-lines g c = c.lines_stay_told.ensures

pub returns-clause-well : goal.returns-clause-well
returns-clause-well g c = c.workers_ran.ensures.well
