use Rattle.sink_groups.proofs.LawLemmas.{all_due}
use Rattle.sink_groups.proofs.laws.tries_all_that_are_due.Goals as goal

pub returns : goal.returns
returns c = all_due
