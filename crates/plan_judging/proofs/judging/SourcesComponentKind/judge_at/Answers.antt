use Rattle.plan_judging.proofs.Joins.{whatever, claims_last}
use Rattle.plan_judging.proofs.judging.SourcesComponentKind.judge_at.Goals as goal

pub returns : goal.returns
returns c = let same = c.requires in record { judged = whatever _ (rw same at c.in_ok-check_source.ensures); claimed = claims_last _ _ _ (rw same at c.in_ok-claim_source.ensures) (rw same at c.claim_steps.ensures) }
