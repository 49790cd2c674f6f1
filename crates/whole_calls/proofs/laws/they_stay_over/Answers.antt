use Rattle.whole_calls.proofs.Later.{stay_over}
use Rattle.whole_calls.proofs.laws.they_stay_over.Goals as goal

pub returns : goal.returns
returns c = stay_over
