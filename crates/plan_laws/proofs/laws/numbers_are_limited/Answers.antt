use Rattle.plan_laws.proofs.Limits.{numbers_limited}
use Rattle.plan_laws.proofs.laws.numbers_are_limited.Goals as goal

pub returns : goal.returns
returns c = numbers_limited
