use Rattle.whole_calls.proofs.Origins.{each_over}
use Rattle.whole_calls.proofs.laws.each_is_over.Goals as goal

pub returns : goal.returns
returns c = each_over
