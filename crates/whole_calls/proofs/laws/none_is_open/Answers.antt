use Rattle.whole_calls.proofs.Origins.{none_open}
use Rattle.whole_calls.proofs.laws.none_is_open.Goals as goal

pub returns : goal.returns
returns c = none_open
