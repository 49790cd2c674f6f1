use Rattle.run_staff.proofs.Owning.{first_own}
use Rattle.run_working.proofs.Owning.{own_kept}
use Rattle.agent_run.proofs.laws.own_numbers_are_kept.Goals as goal

pub returns-clause-first : goal.returns-clause-first
returns-clause-first c = first_own

pub returns-clause-kept : goal.returns-clause-kept
returns-clause-kept c = own_kept
