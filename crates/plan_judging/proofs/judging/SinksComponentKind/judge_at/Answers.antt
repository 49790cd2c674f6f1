use Rattle.plan_judging.proofs.Joins.{whatever}
use Rattle.plan_judging.proofs.judging.SinksComponentKind.judge_at.Goals as goal

pub returns : goal.returns
returns c = let same = c.requires in record { judged = whatever _ (rw same at c.in_ok-check_sink.ensures); claimed = rw same at c.claim_sink.ensures }
