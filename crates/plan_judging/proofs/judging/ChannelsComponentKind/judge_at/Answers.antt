use Rattle.plan_judging.proofs.Joins.{whatever}
use Rattle.plan_judging.proofs.judging.ChannelsComponentKind.judge_at.Goals as goal

pub returns : goal.returns
returns c = let same = c.requires in record { judged = whatever _ (rw same at c.in_ok-check_channel.ensures); claimed = rw same at c.claim_channel.ensures }
