use Rattle.plan_judging.proofs.Joins.{join, join_last, claims_join, claims_last}
use Rattle.plan_judging.proofs.judging.judge_components.Goals as goal

pub returns : goal.returns
returns c =
    let sources = rw c.as_slice.ensures.keys at c.in_ok-judge_each.ensures in
    let channels = rw c.as_slice-2.ensures.keys at c.in_ok-judge_each-2.ensures in
    let sinks = rw c.as_slice-3.ensures.keys at c.in_ok-judge_each-3.ensures in
    let groups = rw c.as_slice-4.ensures.keys at c.judge_each-4.ensures in
    record {
      judged = join_last _ _ _ (join (join sources.judged channels.judged) sinks.judged) groups.judged;
      claimed = claims_last _ _ _ (claims_join (claims_join sources.claimed channels.claimed) sinks.claimed) groups.claimed;
    }
